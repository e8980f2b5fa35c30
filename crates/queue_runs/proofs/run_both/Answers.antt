-- The running blit, then what is left of the steps on the queued one.
use Rattle.std.proofs.Common.{arith}
use Rattle.queue_runs.proofs.TwoBlits.{none_over, run-reached}
use Rattle.queue_runs.proofs.run_both.Goals as goal

pub returns-then-rest-gt0 : goal.returns-then-rest-gt0
returns-then-rest-gt0 c = λ x. run-reached c.run_one-rest.ensures c.run_one.ensures x

pub returns-else-rest-gt0 : goal.returns-else-rest-gt0
returns-else-rest-gt0 c =
    let one = c.run_one-rest.ensures in
    λ x. run-reached one (none_over one (omega arith)) x
