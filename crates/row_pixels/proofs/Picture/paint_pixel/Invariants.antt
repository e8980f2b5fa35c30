-- The places before one are painted.
use Rattle.std.proofs.Common.{ℕ}
use Rattle.row_pixels.specs.Fills.{Fills}
use Rattle.row_pixels.proofs.Picture.paint_pixel.Given as goal

abbrev pub invariant-loop-place : goal.invariant-loop-place
invariant-loop-place l = Fills l.x l.place (λ (_ : ℕ). l.colour) l.fn.pixels l.pixels
