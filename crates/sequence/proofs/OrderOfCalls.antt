-- Demand 3 of the calls themselves: two lists played through them, one with the blit's steps anywhere and one with the blit
-- done first, end alike, and their calls answer alike.
use mathlib.Core.Path.{◌≡◌, refl, sym, ap, ◌∙◌}
use mathlib.Core.List.{List, [], ◌∷◌}
use Prim.Native.Nat.{ℕ}
use Rattle.xosera.specs.Adapter.{Adapter}
use Rattle.xosera.specs.Events.{Event, Answer, call, step, run}
use Rattle.calls.specs.Calls.{after}
use Rattle.calls.specs.Sequences.{start_with, Starts, words_of, all_answers}
use Rattle.order.specs.Order.{Keeps, agreed, answered, answers, Alike, but_bit6, blit_first}
use Rattle.order.proofs.Demand3.{demand-3}
use Rattle.sequence.specs.Played.{agreed_answers, Played}

-- Of all answers those that demand 3 compares.
compared : (a : Adapter) (es : List Event) → agreed_answers es (all_answers a es) ≡ answers agreed a es
unfolding agreed_answers all_answers answered
compared a [] = refl
compared a (call c ∷ es) = ap (λ (l : List Answer). answered agreed a c ∷ l) (compared (after a (call c)) es)
compared a (step ∷ es) = compared (after a step) es
compared a (run n ∷ es) = compared (after a (run n)) es

pub record CallsAlike (es fs : List Event) (c d : Adapter) (told first : List Answer) : Type 0 where
  pub ends : but_bit6 c ≡ but_bit6 d
  pub answer-alike : agreed_answers es told ≡ agreed_answers fs first

pub calls-alike : (a : Adapter) (b : ℕ) (es : List Event) (c d : Adapter) (told first : List Answer) → Starts a b →
    let s = after a (start_with b) in
    Keeps (words_of s) s es → Played s es told c → Played s (blit_first (words_of s) es) first d → CallsAlike es (blit_first (words_of s) es) c d told first
calls-alike a b es c d told first starts keeps p q =
    let s : Adapter = after a (start_with b) in
    let fs : List Event = blit_first (words_of s) es in
    let alike : Alike agreed s es s fs = demand-3 a b es starts keeps in
    record {
      ends = ap but_bit6 p.leaves ∙ alike.ends ∙ sym (ap but_bit6 q.leaves);
      answer-alike =
          ap (agreed_answers es) p.answered ∙ compared s es ∙ alike.answer-alike
          ∙ sym (ap (agreed_answers fs) q.answered ∙ compared s fs);
    }
