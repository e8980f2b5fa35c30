-- At 0x49 a blit starts behind the store.
use mathlib.Core.Path.{◌∙◌}
use Rattle.xosera.specs.State.{state_at}
use Rattle.xr_port.proofs.XrWrites.{starting-write}
use Rattle.xr_port.proofs.write_register.Goals as goal

pub returns-in-73 : goal.returns-in-73
returns-in-73 c =
    λ v x. c.start.ensures v x ∙ starting-write (state_at c.args.s.now) v x c.args.at c.args.w c.store_register.new.s c.in-73.is c.store_register.ensures
