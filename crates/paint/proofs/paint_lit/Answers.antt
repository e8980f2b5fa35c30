-- Border, window and border.
use Rattle.std.proofs.Common.{refl}
use Rattle.paint.proofs.LinePainted.{line-painted}
use Rattle.paint.proofs.paint_lit.Goals as goal

pub returns : goal.returns
returns c =
    let p = c.args.picture.now in
    line-painted p.playfield _ c.min-right.ensures c.min-left.ensures p.vram.now p.colours.now _ c.requires
    refl c.colour-border.ensures c.row_start.ensures c.fill.ensures c.paint_window.ensures c.fill-2.ensures
