-- So many of the n steps are done, and the blit goes on. Each turn does one word inside a line.
use Rattle.std.proofs.Common.{◌-◌}
use Rattle.engine_runs.specs.Progress.{Going}
use Rattle.engine_runs.proofs.run_inside.Given as goal

abbrev pub invariant-loop-done : goal.invariant-loop-done
invariant-loop-done l = Going l.fn.blit.engine l.fn.vram l.n l.at.engine l.vram (l.n - l.done)
