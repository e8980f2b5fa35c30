-- A word inside a line is not the blit's last, so the blit goes on.
use Rattle.std.proofs.Common.{◌≡◌, false, sym, arith}
use Rattle.xosera.specs.Blitter.{last_step}
use Rattle.xosera.proofs.EngineLaws.{inside-not-last}
use Rattle.engine_runs.proofs.Runs.{going-drawn}
use Rattle.engine_runs.proofs.run_inside.Goals as goal
use Rattle.engine_runs.proofs.run_inside.Goals.{Else-last_word}

inside : (c : Else-last_word) → last_step c.loop-done.at.engine ≡ false
inside c = inside-not-last _ (sym c.if-last_word.ensures)

pub advance-at-requires : goal.advance-at-requires
advance-at-requires c = inside (goal.at.advance-at-requires c).Else-last_word

pub loop-done-preserved : goal.loop-done-preserved
loop-done-preserved c =
    let goes_on = inside (goal.at.loop-done-preserved c).Else-last_word in
    let one = c.draw-drawn.ensures in
    going-drawn c.loop-done.invariant (omega arith) goes_on one.took one.leaves c.advance-at.ensures
