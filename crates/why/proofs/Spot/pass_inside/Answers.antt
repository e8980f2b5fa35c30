-- Each turn does one word inside a line, which goes elsewhere.
use mathlib.Core.Path.{sym}
use native.Mathlib.Omega.{arith}
use Rattle.xosera.proofs.EngineLaws.{inside-not-last, next-left}
use Rattle.why.proofs.Noting.{passed-more, passed-word}
use Rattle.why.proofs.Spot.pass_inside.Goals as goal

pub advance-at-requires : goal.advance-at-requires
advance-at-requires c = inside-not-last _ (sym c.if-not-last_word.ensures)

pub loop-at-smaller : goal.loop-at-smaller
loop-at-smaller c = grind (arith, inside-not-last, next-left)

pub loop-at-preserved : goal.loop-at-preserved
loop-at-preserved c =
    let inside = inside-not-last _ (sym c.if-not-last_word.ensures) in
    let one = c.draw-drawn.ensures in
    passed-more c.loop-at.invariant
    (passed-word c.loop-at.at.running inside (sym c.if-not-is_reached.ensures) one.took one.leaves c.advance-at.ensures)
