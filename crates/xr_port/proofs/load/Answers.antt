-- The address set and the word there loaded.
use Rattle.std.proofs.Common.{[], ◌∷◌, refl, ◌∙◌}
use Rattle.xosera.specs.State.{state_at}
use Rattle.xosera.specs.Memories.{stored}
use Rattle.xosera.specs.Plan.{changed, perform}
use Rattle.xosera.specs.HostBytes.{xr_loaded}
use Rattle.xosera.proofs.WordLaws.{◌takes◌, stored-adapter}
use Rattle.xr_port.proofs.load.Goals as goal

pub returns : goal.returns
unfolding state_at perform changed stored xr_loaded
returns c =
    let stores = (16 takes c.args.a.0) ∷ (18 takes c.xr_read-word.result) ∷ [] in
    λ v. stored-adapter c.args.s.now c.told-s stores refl v c.args.xr.now ∙ rw c.xr_read-word.ensures
