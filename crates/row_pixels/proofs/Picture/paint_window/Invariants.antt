-- Word by word, up to the window's end.
use Rattle.std.proofs.Common.{◌-◌, length, take}
use Rattle.row_pixels.proofs.RowLaws.{Along}
use Rattle.row_pixels.proofs.Picture.paint_window.Given as goal

abbrev pub invariant-loop-x : goal.invariant-loop-x
invariant-loop-x l =
    Along l.self.playfield l.self.vram.now l.self.colours.now l.fn.row.0 l.from l.to l.x l.at.0 (take l.to l.fn.pixels) l.shown

abbrev pub decreases-loop-x : goal.decreases-loop-x
decreases-loop-x l = length l.initial.shown - l.x
