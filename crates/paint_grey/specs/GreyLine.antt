-- What painting a grey line is refused with, answers and leaves (document 02, request 7). It is no event of demand 3.
use Rattle.std.specs.Prelude.{◌≡◌, cond, List, map, ℕ, eqb, length}
use Rattle.xosera.specs.Adapter.{Adapter}
use Rattle.scanline.specs.PaintCall.{paint_refusal, pixels_after}
use Rattle.grey.specs.Grey.{grey_level}

-- The lent words after the call: "the painted line with each word taken through the table"; refused, they are untouched.
unfoldable pub grey_after : Adapter → ℕ → List ℕ → List ℕ
grey_after a line pixels = cond (eqb (paint_refusal a line (length pixels)) 0) (map grey_level (pixels_after a line pixels)) pixels

-- Painting a grey line of adapter a to lent words gives this refusal, 0 for done, and leaves the words so: "refusals as in painting".
-- State and memories are lent for reading.
pub record PaintsGrey (a : Adapter) (line : ℕ) (pixels : List ℕ) (refusal : ℕ) (after : List ℕ) : Type 0 where
  pub answers : refusal ≡ paint_refusal a line (length pixels)
  pub leaves : after ≡ grey_after a line pixels
