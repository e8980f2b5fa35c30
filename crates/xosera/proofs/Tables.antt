-- What holds of each entry of a table, or of each of some numbers, holds wherever one looks.
use mathlib.Core.Path.{◌≡◌, sym, subst}
use mathlib.Core.Bool.{Bool, true, ◌&&◌}
use mathlib.Core.List.{List, [], ◌∷◌}
use Prim.Native.Nat.{ℕ, zero, suc, ◌+◌, ◌≤◌, ◌<◌}
use native.Mathlib.Omega.{arith}
use native.Mathlib.Decide.{ℕ_discrete}
use lib.Dec.{T}
use lib.ListN.{length, get_or}
use Rattle.xosera.proofs.Branches.{both}

infixr 20 ◌and◌
abbrev pub ◌and◌ : {A B : Type 0} → A → B → A × B
a and b = (a, b)

-- A table, its entries by their number, and the value outside it.
abbrev pub Each {ℓ} : {A : Type ℓ} → (ℕ → A → Type 0) → List A → Type 0
Each P [] = Unit {0}
Each P (x ∷ l) = P 0 x × Each (λ k. P (suc k)) l

pub get_or-each {ℓ} : {A : Type ℓ} (P : ℕ → A → Type 0) (d : A) (l : List A) → Each P l → ((r : ℕ) → length l ≤ r → P r d) → (r : ℕ) → P r (get_or l r d)
get_or-each P d [] t outside r = outside r (omega arith)
get_or-each P d (x ∷ l) t outside zero = t.0
get_or-each P d (x ∷ l) t outside (suc r) = get_or-each (λ k. P (suc k)) d l t.1 (λ k h. outside (suc k) (omega (arith, h))) r

-- n numbers from one on.
abbrev pub AllFrom : (ℕ → Type 0) → ℕ → ℕ → Type 0
AllFrom P at zero = Unit {0}
AllFrom P at (suc n) = P at × AllFrom P (suc at) n

pub within-each : (P : ℕ → Type 0) (n at : ℕ) → AllFrom P at n → (k : ℕ) → at ≤ k → k < at + n → P k
within-each P zero at all k l h = absurd (omega arith)
within-each P (suc n) at all k l h = pick (ℕ_discrete k at) (λ d. within-each P n (suc at) all.1 k (omega (arith, d)) (omega arith))
  where
    pick : Dec (k ≡ at) → ((k ≡ at → ⊥) → P k) → P k
    pick (yes e) more = subst P (sym e) all.0
    pick (no d) more = more d

pub below_each : (P : ℕ → Type 0) (n : ℕ) → AllFrom P 0 n → (k : ℕ) → k < n → P k
below_each P n all k h = within-each P n 0 all k (omega arith) (omega arith)

-- The numbers below n, by a test that computes.
abbrev pub all_below : ℕ → (ℕ → Bool) → Bool
all_below zero p = true
all_below (suc n) p = p n && all_below n p

pub below-tested : (n : ℕ) (p : ℕ → Bool) → T (all_below n p) → (k : ℕ) → k < n → T (p k)
below-tested zero p t k h = absurd (omega arith)
below-tested (suc n) p t k h = pick (ℕ_discrete k n) (λ l. below-tested n p (both (p n) (all_below n p) t).1 k l)
  where
    pick : Dec (k ≡ n) → (k < n → T (p k)) → T (p k)
    pick (yes e) less = subst (λ (m : ℕ). T (p m)) (sym e) (both (p n) (all_below n p) t).0
    pick (no d) less = less (omega arith)

-- The first n values of a function, in one.
abbrev pub Firsts : Type 0 → ℕ → Type 0
Firsts A zero = Unit {0}
Firsts A (suc n) = A × Firsts A n

abbrev pub firsts : {A : Type 0} (n : ℕ) → (ℕ → A) → Firsts A n
firsts zero f = tt
firsts (suc n) f = (f 0, firsts n (λ k. f (suc k)))

-- Two functions whose first n values compute to the same, by one `refl`, are the same where they are the same from n on.
pub firsts_same : {A : Type 0} (f g : ℕ → A) (n : ℕ) → firsts n f ≡ firsts n g → (k : ℕ) → (n ≤ k → f k ≡ g k) → f k ≡ g k
firsts_same f g zero e k past = past (omega arith)
firsts_same f g (suc n) e zero past = λ i. (e i).0
firsts_same f g (suc n) e (suc k) past = firsts_same (λ j. f (suc j)) (λ j. g (suc j)) n (λ i. (e i).1) k (λ h. past (omega arith))

-- What the arm `_` of a match knows of its number, where the other arms are those for the numbers below n.
abbrev pub NoneBelow : ℕ → ℕ → Type 0
NoneBelow zero a = Unit {0}
NoneBelow (suc n) a = NoneBelow n a × (a ≡ n → ⊥)

pub none_below : (n a : ℕ) → NoneBelow n a → n ≤ a
none_below zero a none = omega arith
none_below (suc n) a none = omega (arith, none_below n a none.0, none.1)
