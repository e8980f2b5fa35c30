-- Two stores.
use Rattle.std.proofs.Common.{[], ◌∷◌, refl}
use Rattle.xosera.specs.State.{state_at}
use Rattle.xosera.specs.Memories.{stored}
use Rattle.xosera.specs.Plan.{changed, perform}
use Rattle.xosera.proofs.WordLaws.{◌takes◌, stored-adapter}
use Rattle.timer.proofs.set_countdown.Goals as goal

pub returns : goal.returns
unfolding state_at perform changed stored
returns c = stored-adapter c.args.s.now c.told-s ((26 takes c.args.w) ∷ (27 takes c.args.w) ∷ []) refl
