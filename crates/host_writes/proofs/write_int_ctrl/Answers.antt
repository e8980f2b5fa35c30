-- The mask set and the bits cleared.
use mathlib.Core.Path.{refl, ◌∙◌}
use mathlib.Core.List.{[], ◌∷◌}
use Prim.Native.Nat.{◌-◌}
use lib.Bits.{bit_and}
use Rattle.xosera.specs.State.{word_at, state_at}
use Rattle.xosera.specs.Memories.{stored}
use Rattle.xosera.specs.Plan.{changed, perform}
use Rattle.xosera.proofs.WordLaws.{◌takes◌, stored-adapter}
use Rattle.host_writes.proofs.write_int_ctrl.Goals as goal

pub returns : goal.returns
unfolding state_at perform changed stored
returns c =
    let ws = c.args.s.now in
    let mask = c.int_mask in
    let status = c.int_status in
    λ v x. stored-adapter ws c.told-s ((29 takes mask.result) ∷ (31 takes bit_and (word_at ws 31) (127 - status.result)) ∷ []) refl v x
    ∙ rw (mask.ensures, status.ensures)
