-- A turn goes on from where it began, through the inside of a line and by the word at its edge.
use Rattle.std.proofs.Common.{sym, arith}
use Rattle.engine_runs.proofs.Runs.{going-trans, going-drawn, drawn-ended}
use Rattle.engine_runs.proofs.run_blit.Goals as goal

pub returns-then-last_step : goal.returns-then-last_step
returns-then-last_step c =
    let so_far = going-trans c.loop-rest.invariant c.run_inside.ensures in
    drawn-ended so_far (omega (arith, c.if-rest-eq0.false)) (sym c.if-last_step.ensures) c.draw-drawn.ensures.leaves

pub loop-rest-preserved : goal.loop-rest-preserved
loop-rest-preserved c =
    let so_far = going-trans c.loop-rest.invariant c.run_inside.ensures in
    let one = c.draw-drawn.ensures in
    going-drawn so_far (omega (arith, c.if-rest-eq0.false)) (sym c.if-last_step.ensures) one.took one.leaves c.advance-at.ensures
