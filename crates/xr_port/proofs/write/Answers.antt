-- The address moved on, then the store at the address as it was.
use Rattle.std.proofs.Common.{◌+◌, ◌%◌, [], ◌∷◌, refl, ap, ◌∙◌}
use Rattle.xosera.specs.State.{word_at, state_at}
use Rattle.xosera.specs.Words.{wrap}
use Rattle.xosera.specs.Adapter.{Adapter}
use Rattle.xosera.specs.Plan.{perform}
use Rattle.xosera.specs.XrSpace.{xr_write}
use Rattle.xosera.proofs.WordLaws.{◌takes◌, stored-adapter}
use Rattle.xr_port.proofs.write.Goals as goal

pub returns : goal.returns
unfolding state_at perform wrap
returns c =
    let ws = c.args.s.now in
    let at = word_at ws 17 in
    let w = c.args.w in
    let moved = stored-adapter ws c.told-s ((17 takes (word_at ws 17 + 1) % 65536) ∷ []) refl in
    λ v. c.write_xr.ensures v ∙ ap (λ (a : Adapter). perform (xr_write a.side at w) a) (moved v c.args.xr.now)
