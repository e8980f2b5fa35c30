-- So many of the n steps are done, and the blit goes on. Each turn goes through the inside of a line and does one word at its
-- edge; the blit's last word returns.
use Rattle.engine_runs.specs.Progress.{Going}
use Rattle.engine_runs.proofs.run_blit.Given as goal

abbrev pub invariant-loop-rest : goal.invariant-loop-rest
invariant-loop-rest l = Going l.fn.blit.engine l.fn.vram l.n l.at.engine l.vram l.rest

abbrev pub decreases-loop-rest : goal.decreases-loop-rest
decreases-loop-rest l = l.rest
