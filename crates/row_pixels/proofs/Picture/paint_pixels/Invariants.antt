-- Pixel behind pixel.
use Rattle.std.proofs.Common.{◌≤◌, length}
use Rattle.row_pixels.specs.RowParts.{PaintsPixels}
use Rattle.row_pixels.proofs.Picture.paint_pixels.Given as goal

abbrev pub invariant-loop-pixel : goal.invariant-loop-pixel
invariant-loop-pixel g l =
    (l.behind ≤ length l.fn.pixels)
    × PaintsPixels l.self.playfield l.self.colours.now l.word l.pixel l.x (length l.fn.pixels) l.behind l.fn.pixels l.pixels
