-- On by an instruction, then the write, unless it is dropped.
use Rattle.std.proofs.Common.{rules}
use Rattle.xosera.specs.State.{is_set, state_at}
use Rattle.xosera.specs.Adapter.{adapter_at}
use Rattle.copper.proofs.CopperActs.{move-dropped, move-made}
use Rattle.copper.proofs.move_register.Goals as goal

pub returns-else-not-dropped : goal.returns-else-not-dropped
unfolding state_at
returns-else-not-dropped c =
    λ v x. move-dropped (is_set (state_at c.args.s.now).queued) (adapter_at c.args.s.now v x) c.args.a c.args.w (c.go_on.ensures v x) (search rules)

pub returns-then-not-dropped : goal.returns-then-not-dropped
unfolding state_at
returns-then-not-dropped c =
    λ v x. move-made (is_set (state_at c.args.s.now).queued) (adapter_at c.args.s.now v x) c.args.a c.args.w (c.go_on.ensures v x)
    (search rules) (c.write_register.ensures v x)
