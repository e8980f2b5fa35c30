-- Bit 15 clear stops the copper.
use Rattle.std.proofs.Common.{[], ◌∷◌, sym, refl, ◌∙◌}
use Rattle.xosera.specs.State.{state_at}
use Rattle.xosera.proofs.WordLaws.{◌takes◌, stored-state}
use Rattle.xr_port.proofs.control_copper.Goals as goal

pub returns-then-not-copper_enabled : goal.returns-then-not-copper_enabled
unfolding state_at
returns-then-not-copper_enabled c =
    stored-state c.args.s.now c.told-s ((77 takes 0) ∷ (78 takes 0) ∷ []) refl ∙ rw (sym c.copper_enabled.ensures ∙ c.if-not-copper_enabled.true)
