-- What the calls have from their refusals: an error that a `?` hands on is the answer, and what is not refused is fit to go on. `here` is
-- the adapter at the call.
use mathlib.Core.Path.{◌≡◌, refl, sym, ◌∙◌}
use mathlib.Core.Bool.{Bool, not}
use mathlib.Core.List.{List, [], ◌∷◌}
use Prim.Native.Nat.{ℕ}
use lib.ListN.{length}
use Rattle.std.specs.Prelude.{Result, Err}
use Rattle.std.specs.Result.{IsErrAnd}
use Rattle.xosera.specs.declared.Refusal.{Refusal}
use Rattle.xosera.specs.State.{state_at}
use Rattle.xosera.specs.Told.{refusal_number}
use Rattle.xosera.specs.Adapter.{Adapter, adapter_at}
use Rattle.xosera.specs.Events.{Event, Call, Answer, write, read, call, of_result}
use Rattle.xosera.specs.Ranges.{in_range}
use Rattle.calls.specs.Refusals.{Fit, tests, ◌when◌, first, refusal}
use Rattle.calls.specs.Promises.{Does}
use Rattle.calls.proofs.RefusalLaws.{lent-fit}
use Rattle.calls.proofs.Promised.{refused-result}
use Rattle.refusals.specs.Tested.{lent_refusal}
use Rattle.refusals.proofs.RefusalOrder.{OfState, state-refusal, OfLent, lent-refusal, passed-fit}

module _ (here : Adapter) where
  -- What a `?` hands on.
  pub handed-on : {B : Type 0} (e : Event) (error : Refusal) → refusal_number error ≡ refusal here e
      → (q : Result B Refusal) → IsErrAnd q (λ d. d ≡ error) → (given : B → Answer) → Does here e (of_result given q) here
  handed-on {B = B} e error k = refused-result {A = B} here e {r = Err error} k refl

  pub write-fit : (r : ℕ) (odd : Bool) (b : ℕ) → 0 ≡ refusal here (call (write r odd b)) → Fit here
  unfolding tests
  write-fit r odd b h = lent-fit here (call (write r odd b)) refl (sym h)

  pub read-fit : (r : ℕ) (odd : Bool) → 0 ≡ refusal here (call (read r odd)) → Fit here
  unfolding tests
  read-fit r odd h = lent-fit here (call (read r odd)) refl (sym h)

module _ (ws v x : List ℕ) where
  abbrev here : Adapter
  here = adapter_at ws v x

  -- Of the events that look at the memories and the state.
  module _ {e : Event} (of : OfLent e) where
    pub lent-refused : {B : Type 0} (error : Refusal) → refusal_number error ≡ lent_refusal (length v) (length x) (state_at ws)
        → (q : Result B Refusal) → IsErrAnd q (λ d. d ≡ error) → (given : B → Answer) → Does here e (of_result given q) here
    lent-refused error k = handed-on here e error (k ∙ sym (lent-refusal (state_at ws) v x of))

    pub lent-accepted : 0 ≡ lent_refusal (length v) (length x) (state_at ws) → refusal here e ≡ 0
    lent-accepted k = lent-refusal (state_at ws) v x of ∙ sym k

  pub accepted-fit : 0 ≡ lent_refusal (length v) (length x) (state_at ws) → Fit here
  accepted-fit k = passed-fit (state_at ws) v x refl refl k refl

  -- Of those that look at the state alone.
  module _ {c : Call} (of : OfState c) where
    pub state-refused : {B : Type 0} (error : Refusal) → refusal_number error ≡ first ((3 when not (in_range (state_at ws))) ∷ [])
        → (q : Result B Refusal) → IsErrAnd q (λ d. d ≡ error) → (given : B → Answer) → Does here (call c) (of_result given q) here
    state-refused error k = handed-on here (call c) error (k ∙ sym (state-refusal (state_at ws) v x of))

    pub state-accepted : 0 ≡ first ((3 when not (in_range (state_at ws))) ∷ []) → refusal here (call c) ≡ 0
    state-accepted k = state-refusal (state_at ws) v x of ∙ sym k
