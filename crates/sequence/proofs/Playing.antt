-- A list being played: i of its events are behind, each answered in its place, and the rest are ahead.
use mathlib.Core.Path.{◌≡◌, refl, sym, subst, ap, ap₂, ◌∙◌}
use mathlib.Core.List.{List, [], ◌∷◌, ◌++◌, append_assoc, append-nil}
use Prim.Native.Nat.{ℕ, ◌+◌, ◌≤◌, ◌<◌}
use lib.ListN.{length, get_or, take, drop, set}
use Rattle.std.specs.Prelude.{Result}
use Rattle.std.proofs.lemmas.List.{drop_more, drop_all, take_all, take_more_set, map_push}
use Rattle.xosera.specs.declared.Refusal.{Refusal}
use Rattle.xosera.specs.Adapter.{Adapter}
use Rattle.xosera.specs.Events.{Event, Answer}
use Rattle.calls.specs.Calls.{after}
use Rattle.calls.specs.Sequences.{after_all, all_answers}
use Rattle.calls.specs.Promises.{Does}
use Rattle.sequence.specs.declared.Event as Code
use Rattle.sequence.specs.declared.Gave.{Gave}
use Rattle.sequence.specs.Played.{of_event, of_events, of_gave, of_answers, Played}

pub record Playing (a : Adapter) (es : List Code.Event) (b : Adapter) (i : ℕ) (rs : List (Result Gave Refusal)) : Type 0 where
  pub ahead : after_all b (of_events (drop i es)) ≡ after_all a (of_events es)
  pub behind : of_answers (take i rs) ++ all_answers b (of_events (drop i es)) ≡ all_answers a (of_events es)

pub playing-start : (a : Adapter) (es : List Code.Event) (rs : List (Result Gave Refusal)) → Playing a es a 0 rs
playing-start a es rs = record { ahead = refl; behind = refl }

-- The next event is done; e stands for any, as the value where a list has none.
pub playing-on : {a b c : Adapter} {es : List Code.Event} {i : ℕ} {rs : List (Result Gave Refusal)} (e : Code.Event) (r : Result Gave Refusal)
    → Playing a es b i rs → i < length es → i < length rs → Does b (of_event (get_or es i e)) (of_gave r) c → Playing a es c (i + 1) (set rs i r)
unfolding after_all all_answers
playing-on {a} {b} {c} {es} {i} {rs} e r p more room d =
    let rest : List Event = of_events (drop (i + 1) es) in
    let next : of_events (drop i es) ≡ of_event (get_or es i e) ∷ rest = ap of_events (drop_more es i e more) in
    let behind = of_answers (take i rs) in
    let then = after b (of_event (get_or es i e)) in
    record {
      ahead = ap (λ (x : Adapter). after_all x rest) d.leaves ∙ ap (after_all b) (sym next) ∙ p.ahead;
      behind =
          ap₂ (λ (l k : List Answer). l ++ k)
          (ap of_answers (take_more_set rs i r room) ∙ map_push of_gave (take i rs) r)
          (ap (λ (x : Adapter). all_answers x rest) d.leaves)
          ∙ append_assoc behind (of_gave r ∷ []) (all_answers then rest)
          ∙ ap (λ (x : Answer). behind ++ x ∷ all_answers then rest) d.answers
          ∙ ap (λ (l : List Event). behind ++ all_answers b l) (sym next)
          ∙ p.behind;
    }

-- The same where an equation says which event was played, and another which answer was put.
pub playing-put : {a b c : Adapter} {es : List Code.Event} {i : ℕ} {rs : List (Result Gave Refusal)} (e : Code.Event) (r q : Result Gave Refusal)
    → Playing a es b i rs → i < length es → i < length rs → Does b (of_event e) (of_gave r) c → e ≡ get_or es i e → q ≡ r → Playing a es c (i + 1) (set rs i q)
playing-put {b} {c} e r q p more room d played put =
    rw put (playing-on e r p more room (subst (λ (v : Code.Event). Does b (of_event v) (of_gave r) c) played d))

pub playing-done : {a b : Adapter} {es : List Code.Event} {i : ℕ} {rs : List (Result Gave Refusal)} → Playing a es b i rs
    → length es ≤ i → length rs ≤ i → Played a (of_events es) (of_answers rs) b
unfolding after_all all_answers
playing-done {a} {b} {es} {i} {rs} p none full =
    let over = ap of_events (drop_all i es none) in
    record {
      leaves = ap (after_all b) (sym over) ∙ p.ahead;
      answered =
          sym (append-nil (of_answers rs))
          ∙ ap₂ (λ (l : List Answer) (k : List Event). l ++ all_answers b k) (ap of_answers (sym (take_all i rs full))) (sym over)
          ∙ p.behind;
    }
