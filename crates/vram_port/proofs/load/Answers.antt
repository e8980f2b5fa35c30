-- The address set and the word there loaded.
use Rattle.std.proofs.Common.{[], ◌∷◌, refl, ◌∙◌}
use Rattle.xosera.specs.State.{state_at}
use Rattle.xosera.specs.Memories.{stored}
use Rattle.xosera.specs.Plan.{changed, vram_loaded, perform}
use Rattle.xosera.specs.HostBytes.{vram_load}
use Rattle.xosera.proofs.WordLaws.{◌takes◌, stored-adapter}
use Rattle.vram_port.proofs.load.Goals as goal

pub returns : goal.returns
unfolding state_at perform changed stored vram_load vram_loaded
returns c =
    let stores = (20 takes c.args.a.0) ∷ (23 takes c.read_word-word.result) ∷ [] in
    λ x. stored-adapter c.args.s.now c.told-s stores refl c.args.vram.now x ∙ rw c.read_word-word.ensures
