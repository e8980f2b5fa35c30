-- Pixel behind pixel.
use Rattle.std.proofs.Common.{arith}
use Rattle.row_pixels.proofs.RowLaws.{next-pixel}
use Rattle.row_pixels.proofs.Picture.paint_pixels.Goals as goal

pub loop-pixel-preserved : goal.loop-pixel-preserved
loop-pixel-preserved g c =
    let one = c.paint_pixel-behind.ensures in
    (omega (arith, one.within), next-pixel _ _ _ c.loop-pixel.invariant.1 (rw c.loop-pixel.auto.pixels at one))
