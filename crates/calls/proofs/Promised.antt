-- A call that is refused and one that is done each keep the promise.
use mathlib.Core.Path.{◌≡◌, sym, ap, subst, ◌∙◌}
use mathlib.Core.Bool.{true, false}
use Prim.Native.Nat.{ℕ, ◌%◌, ◌≤◌}
use native.Mathlib.Omega.{arith}
use borrow.Author.Tests.{eq-eqb, ne_eqb}
use lib.Dec.{eqb}
use Rattle.std.specs.Prelude.{Result, Err}
use Rattle.std.specs.Result.{IsErrAnd}
use Rattle.std.proofs.lemmas.Result.{err_from_is_err_and}
use Rattle.xosera.specs.declared.Refusal.{Refusal}
use Rattle.xosera.specs.Told.{refusal_number, refused}
use Rattle.xosera.proofs.Results.{some_number}
use Rattle.xosera.specs.Adapter.{Adapter}
use Rattle.xosera.specs.Events.{Event, Answer, maskless, of_result}
use Rattle.calls.specs.Refusals.{refusal}
use Rattle.xosera.specs.Acts.{done, given, wrote}
use Rattle.calls.specs.Calls.{after, answer}
use Rattle.xosera.proofs.Branches.{cond_yes, cond_no}
use Rattle.calls.specs.Promises.{Does}

-- A mask has four bits, so it fits in a byte.
pub byte_mask : {byte word mask : ℕ} → byte ≡ word % 256 → word ≡ mask → mask ≤ 15 → byte ≡ mask
byte_mask b w h = omega (arith, b, w)

pub refuses : (a : Adapter) (e : Event) (r : ℕ) → r ≡ refusal a e → (r ≡ 0 → ⊥) → Does a e (maskless r 0) a
unfolding answer after
refuses a e r h n =
    let z : eqb (refusal a e) 0 ≡ false = ne_eqb (refusal a e) 0 (λ k. n (h ∙ k)) in
    record {
      answers = λ i. record { refusal = h i; value = sym (cond_no (given a e) 0 z) i; mask = sym (cond_no (wrote a e) 0 z) i };
      leaves = sym (cond_no (done a e) a z);
    }

-- A refusal that a `?` hands on.
pub refused-result : {A B : Type 0} (a : Adapter) (e : Event) {r : Result A Refusal} {error : Refusal} → refused r ≡ refusal a e → r ≡ Err error
    → (q : Result B Refusal) → IsErrAnd q (λ d. d ≡ error) → (given : B → Answer) → Does a e (of_result given q) a
refused-result {B = B} a e h was q g given =
    let p = err_from_is_err_and q g in
    let number = ap refusal_number p.2 ∙ sym (ap refused was) ∙ h in
    subst (λ (x : Result B Refusal). Does a e (of_result given x) a) (sym p.1)
    (refuses a e (refusal_number p.0) number (some_number p.0))

pub performed : (a : Adapter) (e : Event) (value mask : ℕ) (b : Adapter) → refusal a e ≡ 0 → value ≡ given a e → mask ≡ wrote a e → b ≡ done a e
    → Does a e (record { refusal = 0; value = value; mask = mask }) b
unfolding answer after
performed a e value mask b h g w d =
    let z : eqb (refusal a e) 0 ≡ true = eq-eqb (refusal a e) 0 h in
    record {
      answers = λ i. record {
        refusal = sym h i;
        value = (g ∙ sym (cond_yes (given a e) 0 z)) i;
        mask = (w ∙ sym (cond_yes (wrote a e) 0 z)) i;
      };
      leaves = d ∙ sym (cond_yes (done a e) a z);
    }
