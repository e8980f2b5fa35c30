-- Border, window and border are a line.
use Rattle.std.proofs.Common.{◌≡◌, ℕ, ◌<◌, ◌≤◌, min, true, false, leb, List, length, get_or, take, drop, sym, ap, ◌∙◌, arith, le-ltb}
use mathlib.Core.Bool.{and-false}
use lib.Bits.{bit_xor}
use borrow.Author.Tests.{lt-leb}
use Rattle.scanline.specs.declared.Playfield.{Playfield}
use Rattle.xosera.specs.Fields.{colour_base, is_blank}
use Rattle.xr_memory.proofs.Parts.{part-word}
use Rattle.scanline.specs.Scanline.{row_start, in_window, pixel_at, pixel_address, colour_index, colour, across, painted}
use Rattle.scanline.proofs.LineLaws.{across-same}
use Rattle.scanline.proofs.PixelLaws.{outside, inside-index, first-half}
use Rattle.row_pixels.specs.Fills.{Fills}
use Rattle.row_pixels.specs.RowParts.{pixel_colour}
use Rattle.row_pixels.proofs.FillLaws.{fills-join, fills_same, fills-all}

module _ (p : Playfield) (width : ℕ) {left right : ℕ} (r : right ≡ min p.right width) (l : left ≡ min p.left right) where
  below : (x : ℕ) → x < left → in_window p x ≡ false
  unfolding in_window
  below x h = rw (lt-leb p.left x (omega (arith, l, h)))

  above : (x : ℕ) → right ≤ x → x < width → in_window p x ≡ false
  unfolding in_window
  above x h k = rw (le-ltb x p.right (omega (arith, r, h, k))) (and-false (leb p.left x))

  -- The colours of a line that is not blank.
  module _ (vram colours : List ℕ) (line : ℕ) (lit : is_blank p.gfx ≡ false) where
    abbrev seen : ℕ → ℕ
    seen x = get_or colours (colour_index p vram line x) 0

    outer : (x : ℕ) → in_window p x ≡ false → get_or colours p.border 0 ≡ seen x
    outer x h = ap (λ (i : ℕ). get_or colours i 0) (sym ((outside p x h).border vram line lit))

    inner : {row : ℕ} → row ≡ row_start p line → (x : ℕ) → left ≤ x → x < right → pixel_colour p vram colours row (pixel_at p x) ≡ seen x
    unfolding pixel_colour pixel_address
    inner e x h k =
        rw e (ap (λ (i : ℕ). get_or colours i 0) (sym (inside-index p vram line x lit (omega (arith, l, h, k)) (omega (arith, r, k)))))

    pub line-painted : {c row : ℕ} {before a b after : List ℕ} → length before ≡ width → c ≡ get_or colours p.border 0 → row ≡ row_start p line
        → Fills 0 left (λ _. c) before a → Fills left right (λ x. pixel_colour p vram colours row (pixel_at p x)) a b → Fills right width (λ _. c) b after
        → after ≡ across width seen
    line-painted {before = before} {after = after} long coloured started one two three =
        fills-all seen width before after long
        (fills-join seen (omega arith) (omega (arith, r))
        (fills-join seen (omega arith) (omega (arith, l))
        (fills_same _ seen (λ x _ h. coloured ∙ outer x (below x h)) one)
        (fills_same _ seen (inner started) two))
        (fills_same _ seen (λ x h k. coloured ∙ outer x (above x h k)) three))

-- Colours by the first half of colour memory are those of XR memory, for every index is below 256.
module _ (p : Playfield) (vram xr : List ℕ) (line width : ℕ) (b : p.border < 256) (g : p.gfx < 65536) where
  abbrev half : List ℕ
  half = take 256 (drop 5120 xr)

  pub half-painted : {after : List ℕ} → after ≡ across width (λ x. get_or half (colour_index p vram line x) 0) → after ≡ painted width p vram xr line
  unfolding painted colour
  half-painted e = e ∙ across-same width _ _ (λ x _. part-word xr 5120 256 (colour_index p vram line x) (first-half p vram line x b g))

  pub blank-painted : {after : List ℕ} → is_blank p.gfx ≡ true → after ≡ across width (λ _. get_or half (bit_xor p.border (colour_base p.gfx)) 0)
      → after ≡ painted width p vram xr line
  unfolding colour_index
  blank-painted blank e = half-painted (e ∙ across-same width _ _ (λ x _. rw blank))
