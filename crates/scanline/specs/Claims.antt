-- What a reader would ask of a painted line (document 02, request 6), for every width and any registers. `ScanlineClaims` is proved in
-- proofs/ClaimsHold.antt.
use Rattle.std.specs.Prelude.{◌≡◌, Bool, true, false, ◌||◌, List, ℕ, ◌+◌, ◌*◌, ◌-◌, ◌/◌, ◌%◌, ◌^◌, ◌<◌, ◌≤◌, eqb, length, get_or, take, set}
use Rattle.std.specs.Int.Bits.{bit_xor}
use Rattle.scanline.specs.declared.Playfield.{Playfield}
use Rattle.xosera.specs.State.{Video}
use Rattle.xosera.specs.Words.{nibble}
use Rattle.xosera.specs.Fields.{is_blank, h_repeat, v_repeat}
use Rattle.xosera.specs.Memories.{place, word}
use Rattle.xosera.specs.Adapter.{Adapter}
use Rattle.xosera.specs.XrSpace.{video_write}
use Rattle.calls.specs.Refusals.{Fit}
use Rattle.scanline.specs.Scanline.{playfield_a, in_window, pixel_at, four_bits, pixels_in_word, pixel_address, colour_index, colour, painted}
use Rattle.scanline.specs.PaintCall.{screen_width, not_paintable, paint_refusal, Paints}

-- The XR registers by which a line is painted: XR_VID_CTRL, XR_VID_LEFT and XR_VID_RIGHT, XR_PA_GFX_CTRL, XR_PA_DISP_ADDR and
-- XR_PA_LINE_LEN.
unfoldable pub is_taken : ℕ → Bool
is_taken a = eqb a 0x00 || eqb a 0x04 || eqb a 0x05 || eqb a 0x10 || eqb a 0x12 || eqb a 0x13

-- "Swap, scroll, fraction and `LINE_ADDR` are ignored here": no write to another address changes what is painted, and of XR_VID_CTRL
-- none that keeps bits 7:0.
pub record Ignores (v : Video) : Type 0 where
  pub others : (a w : ℕ) → is_taken a ≡ false → playfield_a (video_write v a w) ≡ playfield_a v
  pub upper-bits : (w : ℕ) → w % 256 ≡ v.vidctrl % 256 → playfield_a (video_write v 0x00 w) ≡ playfield_a v

-- Word j of a line's row, and the word that the pixel at x shows, by their addresses.
abbrev pub row_address : Playfield → ℕ → ℕ → ℕ
row_address p line j = (p.address.0 + line / v_repeat p.gfx * p.length + j) % 65536

abbrev pub shown_address : Playfield → ℕ → ℕ → ℕ
shown_address p line x = pixel_address p line (pixel_at p x)

-- A pixel inside the window depends on one VRAM word only, and on which.
pub record OneWord (p : Playfield) (line : ℕ) (x : ℕ) : Type 0 where
  -- Memories that have the same word there, of whatever lengths, give the same index.
  pub depends : (u v : List ℕ) → word u (shown_address p line x) ≡ word v (shown_address p line x) → colour_index p u line x ≡ colour_index p v line x
  -- A store to any other place leaves it.
  pub elsewhere : (v : List ℕ) (i w : ℕ) → (place v (shown_address p line x) ≡ i → ⊥) → colour_index p (set v i w) line x ≡ colour_index p v line x
  pub which : shown_address p line x ≡ row_address p line ((x - p.left) / h_repeat p.gfx / pixels_in_word p)

-- Nothing outside the window depends on VRAM, or on the line.
pub record Outside (p : Playfield) (x : ℕ) : Type 0 where
  pub same : (u v : List ℕ) (line m : ℕ) → colour_index p u line x ≡ colour_index p v m x
  pub border : (v : List ℕ) (line : ℕ) → is_blank p.gfx ≡ false → colour_index p v line x ≡ p.border

-- x is one of the native pixels that show a pixel of word j of the row: the pixel's number in the word, from the left.
pub record Shows (p : Playfield) (j : ℕ) (pixel : ℕ) (x : ℕ) : Type 0 where
  pub not-blank : is_blank p.gfx ≡ false
  pub in-word : pixel < pixels_in_word p
  pub part : ℕ
  pub in-pixel : part < h_repeat p.gfx
  pub there : x ≡ p.left + (j * pixels_in_word p + pixel) * h_repeat p.gfx + part
  pub inside : x < p.right

-- What is seen there.
pub record Seen (p : Playfield) (v : List ℕ) (line : ℕ) (j : ℕ) (pixel : ℕ) (x : ℕ) : Type 0 where
  pub four : four_bits p ≡ true → colour_index p v line x ≡ p.gfx / 4096 * 16 + nibble (3 - pixel) (word v (row_address p line j))
  pub eight : four_bits p ≡ false → colour_index p v line x ≡ word v (row_address p line j) / 256 ^ (1 - pixel) % 256

-- Of a whole line of any width.
pub record WholeLine (width : ℕ) (p : Playfield) (xr : List ℕ) : Type 0 where
  pub size : (v : List ℕ) (line : ℕ) → length (painted width p v xr line) ≡ width
  pub each : (v : List ℕ) (line x : ℕ) → x < width → get_or (painted width p v xr line) x 0 ≡ colour xr (colour_index p v line x)
  -- Two lines of one V repeat group are painted alike; under blank all lines are, whatever VRAM holds.
  pub same-group : (v : List ℕ) (line m : ℕ) → line / v_repeat p.gfx ≡ m / v_repeat p.gfx → painted width p v xr line ≡ painted width p v xr m
  pub blank : (u v : List ℕ) (line m : ℕ) → is_blank p.gfx ≡ true → painted width p u xr line ≡ painted width p v xr m
  -- A narrower line is the beginning of a wider one.
  pub narrower : (n : ℕ) (v : List ℕ) (line : ℕ) → n ≤ width → take n (painted width p v xr line) ≡ painted n p v xr line

-- Refusals after 1 to 3, each where it applies and those before it do not, and none otherwise.
pub record PaintRefusals (a : Adapter) (line : ℕ) (n : ℕ) : Type 0 where
  pub none : not_paintable (playfield_a a.side.video) ≡ false → line ≤ 479 → n ≡ screen_width → paint_refusal a line n ≡ 0
  pub not-paintable : not_paintable (playfield_a a.side.video) ≡ true → paint_refusal a line n ≡ 11
  pub no_line : not_paintable (playfield_a a.side.video) ≡ false → 479 < line → paint_refusal a line n ≡ 12
  pub not-the-width : not_paintable (playfield_a a.side.video) ≡ false → line ≤ 479 → (n ≡ screen_width → ⊥) → paint_refusal a line n ≡ 13

-- What a call has done that gives this refusal and leaves the words so.
pub record Done (a : Adapter) (line : ℕ) (pixels : List ℕ) (refusal : ℕ) (after : List ℕ) : Type 0 where
  pub done : refusal ≡ 0 → (length pixels ≡ screen_width) × (after ≡ painted screen_width (playfield_a a.side.video) a.vram a.side.xr line)
  pub refused : (refusal ≡ 0 → ⊥) → after ≡ pixels

-- Of two calls that are done.
pub record TwoCalls (a : Adapter) (b : Adapter) (line : ℕ) (m : ℕ) (after : List ℕ) (later : List ℕ) : Type 0 where
  -- On one adapter, lines of one V repeat group: the same words.
  pub same-group : a ≡ b → let v = v_repeat (playfield_a a.side.video).gfx in line / v ≡ m / v → after ≡ later
  -- On adapters that differ in VRAM, the same line: the same colour where the word shown is the same, and outside the window.
  pub same-pixel : a.side ≡ b.side → line ≡ m → (x : ℕ) → x < screen_width
      → (in_window (playfield_a a.side.video) x ≡ true
      → let shown = shown_address (playfield_a a.side.video) line x in word a.vram shown ≡ word b.vram shown)
      → get_or after x 0 ≡ get_or later x 0

pub record ScanlineClaims : Type 0 where
  pub ignores : (v : Video) → Ignores v
  pub one_word : (p : Playfield) (line x : ℕ) → OneWord p line x
  pub outside : (p : Playfield) (x : ℕ) → (p.left ≤ x → x < p.right → ⊥) → Outside p x
  -- Under blank, everywhere.
  pub blank-index : (p : Playfield) (v : List ℕ) (line x : ℕ) → is_blank p.gfx ≡ true → colour_index p v line x ≡ bit_xor p.border (p.gfx / 256)
  pub seen : (p : Playfield) (v : List ℕ) (line j pixel x : ℕ) → Shows p j pixel x → Seen p v line j pixel x
  pub whole-line : (width : ℕ) (p : Playfield) (xr : List ℕ) → WholeLine width p xr
  -- Every index is below 256: all colours are from the first half of colour memory.
  pub first-half : (p : Playfield) (v : List ℕ) (line x : ℕ) → p.border < 256 → p.gfx < 65536 → colour_index p v line x < 256
  pub refusals : (a : Adapter) (line n : ℕ) → Fit a → PaintRefusals a line n
  pub calls : (a : Adapter) (line : ℕ) (pixels : List ℕ) (refusal : ℕ) (after : List ℕ) → Paints a line pixels refusal after
      → Done a line pixels refusal after
  pub two-calls : (a b : Adapter) (line m : ℕ) (pixels others after later : List ℕ) → Paints a line pixels 0 after → Paints b m others 0 later
      → TwoCalls a b line m after later
