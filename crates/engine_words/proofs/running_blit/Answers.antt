-- The state's engine, which is fit to go on in a state within its ranges.
use Rattle.std.proofs.Common.{eq-eqb}
use Rattle.xosera.specs.State.{state_at}
use Rattle.xosera.proofs.RangeLaws.{in-range-runs}
use Rattle.engine_words.proofs.running_blit.Goals as goal

pub invariant_of-result : goal.invariant_of-result
unfolding state_at
invariant_of-result c =
    record { running = rw c.engine_of.ensures (in-range-runs (state_at c.args.s.now) c.requires (eq-eqb _ 1 c.if-s-ne1.false)) }
