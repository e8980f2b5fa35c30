-- What painting a scanline is refused with, answers and leaves (document 02, request 6). It is no event of demand 3.
use Rattle.std.specs.Prelude.{◌≡◌, Bool, cond, not, ◌&&◌, ◌||◌, List, [], ◌∷◌, ℕ, ltb, eqb, length}
use Rattle.scanline.specs.declared.Playfield.{Playfield}
use Rattle.xosera.specs.Fields.{is_blank, is_bitmap, pixel_depth}
use Rattle.xosera.specs.Adapter.{Adapter}
use Rattle.calls.specs.Refusals.{Test, ◌when◌, lent_tests, first}
use Rattle.scanline.specs.Scanline.{playfield_a, painted}

-- "640 lent words".
abbrev pub screen_width : ℕ
screen_width = 640

-- 11: "blank clear and either not bitmap or another depth".
unfoldable pub not_paintable : Playfield → Bool
not_paintable p =
    not (is_blank p.gfx) && (not (is_bitmap p.gfx) || not (eqb (pixel_depth p.gfx) 1 || eqb (pixel_depth p.gfx) 2))

-- 12: "line over 479".
unfoldable pub bad_line : ℕ → Bool
bad_line line = ltb 479 line

-- 13: "not 640 words".
unfoldable pub other_width : ℕ → Bool
other_width n = not (eqb n screen_width)

-- "Refusals, after 1 to 3: 11 …, 12 …, 13".
abbrev pub paint_tests : Playfield → ℕ → ℕ → List Test
paint_tests p line n = (11 when not_paintable p) ∷ (12 when bad_line line) ∷ (13 when other_width n) ∷ []

unfoldable pub paint_refusal : Adapter → ℕ → ℕ → ℕ
paint_refusal a line n = first (lent_tests a (paint_tests (playfield_a a.side.video) line n))

-- The lent words after the call: the painted line; refused, "the pixels are then untouched".
unfoldable pub pixels_after : Adapter → ℕ → List ℕ → List ℕ
pixels_after a line pixels =
    cond (eqb (paint_refusal a line (length pixels)) 0) (painted screen_width (playfield_a a.side.video) a.vram a.side.xr line) pixels

-- Painting a line of adapter a to lent words gives this refusal, 0 for done, and leaves the words so. State and memories are lent for
-- reading.
pub record Paints (a : Adapter) (line : ℕ) (pixels : List ℕ) (refusal : ℕ) (after : List ℕ) : Type 0 where
  pub answers : refusal ≡ paint_refusal a line (length pixels)
  pub leaves : after ≡ pixels_after a line pixels
