-- Word by word, up to the window's end.
use Rattle.std.proofs.Common.{◌≡◌, length, refl, ◌∙◌, arith}
use lib.Seq.{length-take-le}
use Rattle.row_pixels.proofs.RowLaws.{along-begins, along-next, pixels-some}
use Rattle.row_pixels.proofs.Picture.paint_window.Goals as goal

pub loop-x-init : goal.loop-x-init
loop-x-init c = along-begins _ _ _ _ (omega arith) c.requires

pub loop-x-smaller : goal.loop-x-smaller
loop-x-smaller c = omega (arith, c.paint_word-x.ensures.further (pixels-some _) c.loop-x-test.true)

pub loop-x-preserved : goal.loop-x-preserved
loop-x-preserved c =
    let end : length c.loop-x.shown ≡ c.args.to = c.loop-x.auto.shown ∙ length-take-le _ _ c.requires.within in
    along-next _ _ _ _ c.loop-x.invariant c.read_word-word.ensures (rw end at c.paint_word-x.ensures) refl
