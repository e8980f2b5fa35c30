-- Every condition is needed, and so is every exception: the lists of specs/Needed, computed in both orders.
use mathlib.Core.Path.{◌≡◌, refl, sym, ap, ◌∙◌}
use mathlib.Core.Bool.{Bool, true, false, not, ◌&&◌, and-eq-true_iff}
use mathlib.Core.List.{List, map}
use Prim.Native.Nat.{ℕ}
use native.Mathlib.Omega.{arith}
use lib.Dec.{T, eqb}
use lib.ListN.{get_or}
use borrow.Author.Tests.{eqb-true, eqb-false, not-true}
use Rattle.xosera.specs.Adapter.{Adapter}
use Rattle.xosera.specs.Events.{Call, Event, Answer}
use Rattle.calls.specs.Sequences.{Starts, words_of, after_all}
use Rattle.bench_rows.proofs.ComputedTables.{all_same, all-equal}
use Rattle.order.specs.Order.{Condition, but_bit6, Alike, blit_first}
use Rattle.order.specs.Order.{enough_steps, starts_none, writes_none_read, writes_none_written, loads_none_written, copper_disabled}
use Rattle.order.specs.Witness.{ready, begun}
use Rattle.order.specs.Needed.{Case, copper_ready, broken, begun_for, Breaks, begun_twice, full_read, IdleNeeded, questions, clearing, MayDiffer}
use Rattle.order.specs.Needed.{Needed, claim_words, ClaimWords}
use Rattle.order.proofs.ComputingOrder.{computing-order}
use Rattle.order.proofs.ConditionTests.{all_conditions, conditions-tested, keeps-tested, others_tested, others-tested}

-- Two lists that end in different numbers are not alike, if status bit 6 is not looked at.
differ-not-alike : (look : Adapter → ℕ) → ((a : Adapter) → look (but_bit6 a) ≡ look a) → (m n : ℕ) → eqb m n ≡ false →
    {agree : Call → ℕ → ℕ} {a b : Adapter} {es fs : List Event} → look (after_all a es) ≡ m → look (after_all b fs) ≡ n → Alike agree a es b fs → ⊥
differ-not-alike look unseen m n differ {a = a} {b = b} {es = es} {fs = fs} p q alike =
    eqb-false m n differ (sym p ∙ sym (unseen (after_all a es)) ∙ ap look alike.ends ∙ unseen (after_all b fs) ∙ q)

look-unseen : (k : Condition) (a : Adapter) → (broken k).look (but_bit6 a) ≡ (broken k).look a
unfolding but_bit6
look-unseen enough_steps a = refl
look-unseen starts_none a = refl
look-unseen writes_none_read a = refl
look-unseen writes_none_written a = refl
look-unseen loads_none_written a = refl
look-unseen copper_disabled a = refl

-- A list of n steps from s that breaks condition k alone, and both numbers.
abbrev breaks_tested : ℕ → Adapter → Case → Condition → Bool
breaks_tested n s x k =
    others_tested k n s x.list && eqb (x.look (after_all s x.list)) x.in_order
    && eqb (x.look (after_all s (blit_first n x.list))) x.blit-first && not (eqb x.in_order x.blit-first)

breaks-computed : all_conditions (λ k. breaks_tested (words_of (begun_for k)) (begun_for k) (broken k) k) ≡ true
unfolding computing-order others_tested
breaks-computed = refl

starts-ready : Starts ready 2
unfolding computing-order
starts-ready = record { accepted = refl; words = refl; idle = refl }

starts-copper : Starts copper_ready 2
unfolding computing-order
starts-copper = record { accepted = refl; words = refl; idle = refl }

starts : (k : Condition) → Starts (broken k).from 2
starts enough_steps = starts-ready
starts starts_none = starts-ready
starts writes_none_read = starts-ready
starts writes_none_written = starts-ready
starts loads_none_written = starts-ready
starts copper_disabled = starts-copper

breaks : (k : Condition) → Breaks k
breaks k =
    let t = simp and-eq-true_iff at (conditions-tested (λ j. breaks_tested (words_of (begun_for j)) (begun_for j) (broken j) j) breaks-computed k) in
    let in_order = eqb-true _ _ t.0.0.1 in
    let blit-first = eqb-true _ _ t.0.1 in
    record {
      starts = starts k;
      others = others-tested k (words_of (begun_for k)) (begun_for k) (broken k).list t.0.0.0;
      in_order = in_order;
      blit-first = blit-first;
      not_alike = differ-not-alike (broken k).look (look-unseen k) (broken k).in_order (broken k).blit-first (not-true _ t.1) in_order blit-first;
    }

-- The first number that a list of answers gives.
abbrev first_told : List Answer → ℕ
first_told l = get_or (map (λ (x : Answer). x.value) l) 0 0

idle-needed : IdleNeeded
unfolding computing-order
idle-needed = record {
  accepted = refl;
  words = refl;
  running = refl;
  keeps = keeps-tested (words_of begun_twice) begun_twice full_read refl;
  in_order = refl;
  blit-first = refl;
  not_alike = λ alike. absurd (omega (arith, ap first_told alike.answer-alike));
}

may-differ : MayDiffer
unfolding computing-order
may-differ = record {
  keeps = keeps-tested (words_of begun) begun questions refl;
  in_order = refl;
  blit-first = refl;
  keeps-clearing = keeps-tested (words_of begun) begun clearing refl;
  set-in-order = refl;
  cleared-first = refl;
}

pub needed : Needed
needed = record { conditions = breaks; idle = idle-needed; exceptions = may-differ }

claim-words-computed : T (all_same claim_words)
unfolding computing-order
claim-words-computed = tt

pub claim-words : ClaimWords
claim-words = all-equal claim_words claim-words-computed
