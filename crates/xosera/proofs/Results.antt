-- What a result says was refused, at the exits of a `?`.
use mathlib.Core.Path.{◌≡◌, sym, ap, ◌∙◌}
use native.Mathlib.Omega.{arith}
use Rattle.std.specs.Result.{IsErrAnd}
use Rattle.std.specs.Prelude.{Result, Ok, Err}
use Rattle.std.proofs.lemmas.Result.{err_from_is_err_and}
use Rattle.xosera.specs.declared.Refusal.{Refusal}
use Rattle.xosera.specs.Told.{refusal_number, refused}

-- No refusal has the number of done.
pub some_number : (r : Refusal) → refusal_number r ≡ 0 → ⊥
some_number r z = grind arith

module _ {A : Type 0} {r : Result A Refusal} where
  -- Done, it refused nothing.
  pub done-refuses : {x : A} → r ≡ Ok x → refused r ≡ 0
  done-refuses e = ap refused e

  -- Handed on by a `?`, an error is refused with the number that it had, and that is not 0.
  module _ {e : Refusal} (h : r ≡ Err e) where
    pub error-refuses : refused r ≡ 0 → ⊥
    error-refuses z = some_number e (sym (ap refused h) ∙ z)

    pub error-handed-on : {B : Type 0} (q : Result B Refusal) → IsErrAnd q (λ d. d ≡ e) → refused q ≡ refused r
    error-handed-on q g =
        let p = err_from_is_err_and q g in
        ap refused p.1 ∙ ap refusal_number p.2 ∙ sym (ap refused h)
