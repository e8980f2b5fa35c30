-- The beam, then the copper if it runs.
use Rattle.std.proofs.Common.{eq-eqb, ne_eqb}
use Rattle.xosera.specs.State.{state_at}
use Rattle.xosera.specs.Adapter.{adapter_at}
use Rattle.copper.proofs.CopperActs.{step-stopped, step-running}
use Rattle.copper.proofs.beam_step.Goals as goal

pub returns-then-s-eq1 : goal.returns-then-s-eq1
unfolding state_at
returns-then-s-eq1 c =
    let x = c.args.xr.now in
    λ v. step-running (adapter_at c.args.s.now v x) (c.arrive.ensures v x) (eq-eqb _ 1 c.if-s-eq1.true)
    (c.instruction.ensures v)

pub returns-else-s-eq1 : goal.returns-else-s-eq1
unfolding state_at
returns-else-s-eq1 c =
    let x = c.args.xr.now in
    λ v. step-stopped (adapter_at c.args.s.now v x) (c.arrive.ensures v x) (ne_eqb _ 1 c.if-s-eq1.false)
