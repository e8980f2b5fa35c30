-- Line 0, with the copper enabled and not; line 480; any other line.
use mathlib.Core.Path.{refl, sym, ◌∙◌}
use mathlib.Core.List.{[], ◌∷◌}
use Prim.Native.Nat.{◌+◌}
use native.Mathlib.Omega.{arith}
use borrow.Author.Tests.{ne_eqb}
use lib.Bits.{bit_or}
use Rattle.xosera.specs.State.{word_at, state_at}
use Rattle.xosera.specs.Fields.{frame_ended}
use Rattle.xosera.specs.Beam.{frame, next_line, reaches}
use Rattle.xosera.specs.Memories.{stored}
use Rattle.xosera.specs.Plan.{changed, perform}
use Rattle.xosera.proofs.BeamLaws.{beam-facts}
use Rattle.xosera.proofs.WordLaws.{◌takes◌, stored-adapter}
use Rattle.beam.proofs.next_line.Goals as goal

pub overflow_add-line : goal.overflow_add-line
unfolding state_at
overflow_add-line c =
    omega (arith, (beam-facts frame (state_at c.args.s.now).beam c.requires).line)

pub returns-then-enabled : goal.returns-then-enabled
unfolding state_at perform changed stored reaches next_line
returns-then-enabled c =
    let ws = c.args.s.now in
    let stores = (76 takes 0) ∷ (75 takes 0) ∷ (77 takes 1) ∷ (78 takes 0) ∷ [] in
    λ v x. stored-adapter ws c.told-s stores refl v x
    ∙ rw (c.in-525.is, sym c.copper_enabled-enabled.ensures ∙ c.if-enabled.true)

pub returns-else-enabled : goal.returns-else-enabled
unfolding state_at perform changed stored reaches next_line
returns-else-enabled c =
    let ws = c.args.s.now in
    let stores = (76 takes 0) ∷ (75 takes 0) ∷ [] in
    λ v x. stored-adapter ws c.told-s stores refl v x
    ∙ rw (c.in-525.is, sym c.copper_enabled-enabled.ensures ∙ c.if-enabled.false)

pub returns-in-480 : goal.returns-in-480
unfolding state_at perform changed stored reaches next_line
returns-in-480 c =
    let ws = c.args.s.now in
    let stores = (76 takes 0) ∷ (75 takes word_at ws 75 + 1) ∷ (31 takes bit_or (word_at ws 31) frame_ended) ∷ [] in
    λ v x. stored-adapter ws c.told-s stores refl v x
    ∙ rw c.in-480.is

pub returns-in_default : goal.returns-in_default
unfolding state_at perform changed stored reaches next_line
returns-in_default c =
    let ws = c.args.s.now in
    let stores = (76 takes 0) ∷ (75 takes word_at ws 75 + 1) ∷ [] in
    λ v x. stored-adapter ws c.told-s stores refl v x
    ∙ rw (ne_eqb (word_at ws 75 + 1) 525 (grind arith), ne_eqb (word_at ws 75 + 1) 0 (grind arith), ne_eqb (word_at ws 75 + 1) 480 (grind arith))
