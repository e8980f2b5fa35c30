-- A scanline of playfield A, pixel by pixel (document 02, request 6). A line is a visible one of the screen, x a native pixel on it,
-- both from 0.
use Rattle.std.specs.Prelude.{Bool, cond, ◌&&◌, List, ℕ, ◌+◌, ◌*◌, ◌-◌, ◌/◌, ◌%◌, ◌^◌, eqb, leb, ltb, get_or}
use Rattle.std.specs.Int.Bits.{bit_xor}
use Rattle.scanline.specs.declared.Playfield.{Playfield}
use Rattle.xosera.specs.State.{Video, words_from}
use Rattle.xosera.specs.Words.{wrap, nibble}
use Rattle.xosera.specs.Fields.{border_index, colour_base, is_blank, pixel_depth, h_repeat, v_repeat}
use Rattle.xosera.specs.Memories.{word}

-- What painting takes of the registers. "Swap, scroll, fraction and `LINE_ADDR` are ignored here": they are not among it.
unfoldable pub playfield_a : Video → Playfield
playfield_a v = record {
  border = border_index v.vidctrl;
  left = v.vidleft;
  right = v.vidright;
  gfx = get_or v.pa 0 0;
  address = record { 0 = get_or v.pa 2 0 };
  length = get_or v.pa 3 0;
}

-- "The row starts at `DISP_ADDR` plus line over V repeat, rounded down, times `LINE_LEN`, wrapping."
unfoldable pub row_start : Playfield → ℕ → ℕ
row_start p line = wrap p.address.0 (line / v_repeat p.gfx * p.length)

-- "Inside the window from `VID_LEFT` up to but without `VID_RIGHT`".
unfoldable pub in_window : Playfield → ℕ → Bool
in_window p x = leb p.left x && ltb x p.right

-- "Pixels count from the window's left, each H repeat wide": the pixel of the row, from 0, that is seen at x.
unfoldable pub pixel_at : Playfield → ℕ → ℕ
pixel_at p x = (x - p.left) / h_repeat p.gfx

-- Depth "1 is four bits, 2 is eight": four pixels to a word, or two. Other depths are refused with 11.
abbrev pub four_bits : Playfield → Bool
four_bits p = eqb (pixel_depth p.gfx) 1

unfoldable pub pixels_in_word : Playfield → ℕ
pixels_in_word p = cond (four_bits p) 4 2

-- The address of the word that has a pixel of the row: words follow one another, wrapping as the row's start does.
unfoldable pub pixel_address : Playfield → ℕ → ℕ → ℕ
pixel_address p line pixel = wrap (row_start p line) (pixel / pixels_in_word p)

-- "High bits of a word first; four-bit pixels take their upper index bits from the base's upper nibble, eight-bit pixels are the
-- index."
unfoldable pub pixel_index : Playfield → ℕ → ℕ → ℕ
pixel_index p w pixel =
    cond (four_bits p) (colour_base p.gfx / 16 * 16 + nibble (3 - pixel % 4) w)
    (w / 256 ^ (1 - pixel % 2) % 256)

-- The colour index at x: "outside, the border index …; under blank, the border index xor the base everywhere".
unfoldable pub colour_index : Playfield → List ℕ → ℕ → ℕ → ℕ
colour_index p vram line x =
    cond (is_blank p.gfx) (bit_xor p.border (colour_base p.gfx))
    (cond (in_window p x) (pixel_index p (word vram (pixel_address p line (pixel_at p x))) (pixel_at p x))
    p.border)

-- A colour "from the first half of colour memory", which begins at word 5,120 of XR memory.
unfoldable pub colour : List ℕ → ℕ → ℕ
colour xr i = get_or xr (5120 + i) 0

-- The words of a line of so many pixels, by the word of each.
unfoldable pub across : ℕ → (ℕ → ℕ) → List ℕ
across width at = words_from width 0 at

-- A painted line of so many pixels.
unfoldable pub painted : ℕ → Playfield → List ℕ → List ℕ → ℕ → List ℕ
painted width p vram xr line = across width (λ x. colour xr (colour_index p vram line x))
