-- What a value chosen by a test is, and what a test of several parts says.
use mathlib.Core.Path.{◌≡◌, refl, sym, ◌∙◌}
use mathlib.Core.Bool.{Bool, true, false, cond, not, ◌&&◌, ◌||◌, and-eq-true_iff, true≢false, false≢true}
use mathlib.Core.List.{List}
use mathlib.Core.Logic.{◌↔◌}
use Prim.Native.Nat.{ℕ, ◌≤◌}
use lib.Dec.{T, eqb, leb}
use lib.ListN.{length}
use borrow.Author.Tests.{eqb-true, eq-eqb, ne_eqb, leb-true, le-leb}

module _ {ℓ} {A : Type ℓ} where
  pub cond_yes : {b : Bool} (x y : A) → b ≡ true → cond b x y ≡ x
  cond_yes x y h = rw h

  pub cond_no : {b : Bool} (x y : A) → b ≡ false → cond b x y ≡ y
  cond_no x y h = rw h

  -- What a call leaves that is refused with n, 0 for done, and answers r.
  module _ {n r : ℕ} (x y : A) (e : r ≡ n) where
    pub cond-done : r ≡ 0 → cond (eqb n 0) x y ≡ x
    cond-done z = cond_yes x y (eq-eqb n 0 (sym e ∙ z))

    pub cond-refused : (r ≡ 0 → ⊥) → cond (eqb n 0) x y ≡ y
    cond-refused d = cond_no x y (ne_eqb n 0 (λ z. d (e ∙ z)))

  -- What follows from the test for the one choice and from its failing for the other holds of the chosen one.
  pub cond_cases : (P : A → Type 0) (b : Bool) (x y : A) → (b ≡ true → P x) → (b ≡ false → P y) → P (cond b x y)
  cond_cases P true x y p q = p refl
  cond_cases P false x y p q = q refl

  -- What holds of both choices holds of the chosen one.
  pub cond_either : (P : A → Type 0) (b : Bool) (x y : A) → P x → P y → P (cond b x y)
  cond_either P true x y p q = p
  cond_either P false x y p q = q

  pub cond_same : (b : Bool) (x : A) → cond b x x ≡ x
  cond_same true x = refl
  cond_same false x = refl

pub length-cond {ℓ} : {A : Type ℓ} (b : Bool) (x y : List A) → length (cond b x y) ≡ cond b (length x) (length y)
length-cond true x y = refl
length-cond false x y = refl

pub eqb-iff : (a b : ℕ) → (eqb a b ≡ true) ↔ (a ≡ b)
eqb-iff a b = (eqb-true a b, eq-eqb a b)

pub leb-iff : (a b : ℕ) → (leb a b ≡ true) ↔ (a ≤ b)
leb-iff a b = (leb-true a b, le-leb a b)

pub implies-iff : (a b : Bool) → (not a || b ≡ true) ↔ (a ≡ true → b ≡ true)
implies-iff true b = (λ h _. h, λ f. f refl)
implies-iff false b = (λ _ h. absurd (false≢true h), λ _. refl)

-- What a test says, part by part.
pub ruleset parts = (and-eq-true_iff, implies-iff, eqb-iff, leb-iff)

-- A choice of two tests fails when both do.
pub or-eq-false-iff : (x y : Bool) → (x || y ≡ false) ↔ ((x ≡ false) × (y ≡ false))
or-eq-false-iff true y = (λ h. absurd (true≢false h), λ k. k.0)
or-eq-false-iff false y = (λ h. (refl, h), λ k. k.1)

-- Two tests that pass, as one; and of one that computes, as two.
pub and_both : {x y : Bool} → x ≡ true → y ≡ true → x && y ≡ true
and_both p q = rw (p, q)

pub both : (a b : Bool) → T (a && b) → T a × T b
both true b t = (tt, t)
both false b t = absurd t

-- A test cannot both pass and fail, and one that cannot pass fails.
pub clash : {b : Bool} → b ≡ true → b ≡ false → ⊥
clash p q = true≢false (sym p ∙ q)

pub not-passed : (b : Bool) → (b ≡ true → ⊥) → b ≡ false
not-passed true h = absurd (h refl)
not-passed false h = refl
