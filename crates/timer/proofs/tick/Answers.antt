-- A countdown that is stopped, one at its end, and one that goes on.
use Rattle.std.proofs.Common.{◌+◌, ◌-◌, ◌%◌, [], ◌∷◌, refl, ◌∙◌, ne_eqb, arith}
use lib.Bits.{bit_or}
use Rattle.xosera.specs.State.{word_at, state_at}
use Rattle.xosera.specs.Words.{wrap}
use Rattle.xosera.specs.Fields.{timer_expired}
use Rattle.xosera.specs.Memories.{stored}
use Rattle.xosera.specs.Plan.{changed, perform}
use Rattle.xosera.specs.TimerTick as TimerTick
use Rattle.xosera.specs.TimerTick.{ticked, lowered, expires}
use Rattle.xosera.proofs.WordLaws.{◌takes◌, stored-adapter}
use Rattle.timer.proofs.tick.Goals as goal

pub returns-in-0 : goal.returns-in-0
unfolding state_at perform changed stored TimerTick.tick ticked lowered expires wrap
returns-in-0 c =
    let ws = c.args.s.now in
    λ v x. stored-adapter ws c.told-s ((25 takes (word_at ws 25 + 1) % 65536) ∷ []) refl v x ∙ rw c.in-0.is

pub returns-in-1 : goal.returns-in-1
unfolding state_at perform changed stored TimerTick.tick ticked lowered expires wrap
returns-in-1 c =
    let ws = c.args.s.now in
    let stores = (25 takes (word_at ws 25 + 1) % 65536) ∷ (26 takes word_at ws 27) ∷ (31 takes bit_or (word_at ws 31) timer_expired) ∷ [] in
    λ v x. stored-adapter ws c.told-s stores refl v x ∙ rw c.in-1.is

pub returns-in_default : goal.returns-in_default
unfolding state_at perform changed stored TimerTick.tick ticked lowered expires wrap
returns-in_default c =
    let ws = c.args.s.now in
    let stores = (25 takes (word_at ws 25 + 1) % 65536) ∷ (26 takes word_at ws 26 - 1) ∷ [] in
    λ v x. stored-adapter ws c.told-s stores refl v x ∙ rw (ne_eqb (word_at ws 26) 1 (grind arith))
