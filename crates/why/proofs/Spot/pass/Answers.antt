-- Each turn does one word that is not the last, which goes elsewhere, and the inside of a line.
use mathlib.Core.Path.{sym}
use native.Mathlib.Omega.{arith}
use Rattle.xosera.proofs.EngineLaws.{next-left}
use Rattle.why.proofs.Noting.{passed-more, passed-word}
use Rattle.why.proofs.Spot.pass.Goals as goal

pub loop-self-smaller : goal.loop-self-smaller
loop-self-smaller c = grind (arith, next-left)

pub loop-self-preserved : goal.loop-self-preserved
loop-self-preserved c =
    let one = c.draw-drawn.ensures in
    passed-more c.loop-self.invariant
    (passed-more
    (passed-word c.loop-self.at.running (sym c.loop-self-test.ensures) (sym c.if-not-is_reached.ensures)
    one.took one.leaves c.advance.ensures)
    c.pass_inside-at.ensures)
