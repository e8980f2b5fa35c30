-- The end of a line, and any other position.
use mathlib.Core.Path.{◌≡◌, refl, ◌∙◌}
use mathlib.Core.List.{[], ◌∷◌}
use Prim.Native.Nat.{◌+◌}
use native.Mathlib.Omega.{arith}
use borrow.Author.Tests.{eq-eqb, ne_eqb}
use Rattle.xosera.specs.State.{Beam, word_at, state_at}
use Rattle.xosera.specs.Beam.{frame, line_ends, beam_moved}
use Rattle.xosera.specs.Memories.{stored}
use Rattle.xosera.specs.Plan.{changed, perform}
use Rattle.xosera.proofs.BeamLaws.{beam-facts, past-reaches-none}
use Rattle.xosera.proofs.WordLaws.{◌takes◌, stored-adapter}
use Rattle.beam.proofs.arrive.Goals as goal

pub overflow_add-position : goal.overflow_add-position
unfolding state_at
overflow_add-position c =
    omega (arith, (beam-facts frame (state_at c.args.s.now).beam c.requires).position)

pub returns-then-position-eq-FRAME_POSITIONS : goal.returns-then-position-eq-FRAME_POSITIONS
unfolding state_at perform changed stored beam_moved line_ends
returns-then-position-eq-FRAME_POSITIONS c =
    let ws = c.args.s.now in
    λ v x. c.next_line.ensures v x ∙ rw (eq-eqb (word_at ws 76 + 1) 800 c.if-position-eq-FRAME_POSITIONS.true)

pub returns-else-position-eq-FRAME_POSITIONS : goal.returns-else-position-eq-FRAME_POSITIONS
unfolding state_at perform changed stored beam_moved line_ends
returns-else-position-eq-FRAME_POSITIONS c =
    let ws = c.args.s.now in
    let here : Beam = record { line = word_at ws 75; position = word_at ws 76 + 1; running = word_at ws 77; word = word_at ws 78 } in
    let past : (here.position ≡ 0 → ⊥) = λ z. absurd (omega (arith, z)) in
    let stores = (76 takes here.position) ∷ [] in
    λ v x. stored-adapter ws c.told-s stores refl v x
    ∙ rw (ne_eqb (word_at ws 76 + 1) 800 c.if-position-eq-FRAME_POSITIONS.false, past-reaches-none 0 here past, past-reaches-none 480 here past)
