-- A list that is filled from its first element on, as a loop fills it.
use mathlib.Core.Path.{◌≡◌, refl, ap}
use mathlib.Core.List.{List, [], ◌∷◌, ◌++◌}
use Prim.Native.Nat.{ℕ, zero, suc, ◌<◌}
use native.Mathlib.Omega.{arith}
use lib.ListN.{length, take, drop, get_or, set}

-- The first n elements of s, then what d has behind so many.
abbrev pub over : ℕ → List ℕ → List ℕ → List ℕ
over n s d = take n s ++ drop n d

pub over-next : (s d : List ℕ) (n : ℕ) → n < length s → n < length d → set (over n s d) n (get_or s n 0) ≡ over (suc n) s d
over-next [] d n h k = absurd (omega arith)
over-next (x ∷ s) [] n h k = absurd (omega arith)
over-next (x ∷ s) (y ∷ d) zero h k = refl
over-next (x ∷ s) (y ∷ d) (suc n) h k = ap (λ (l : List ℕ). x ∷ l) (over-next s d n (omega arith) (omega arith))

pub over-length : (s d : List ℕ) (n : ℕ) → length d ≡ length s → length (over n s d) ≡ length d
over-length s d zero h = refl
over-length [] [] (suc n) h = refl
over-length [] (y ∷ d) (suc n) h = absurd (omega arith)
over-length (x ∷ s) [] (suc n) h = absurd (omega arith)
over-length (x ∷ s) (y ∷ d) (suc n) h = ap suc (over-length s d n (omega arith))

pub over-all : (s d : List ℕ) (n : ℕ) → length d ≡ n → length s ≡ n → over n s d ≡ s
over-all [] [] n h k = go n
  where
    go : (n : ℕ) → over n [] [] ≡ []
    go zero = refl
    go (suc n) = refl
over-all [] (y ∷ d) n h k = absurd (omega arith)
over-all (x ∷ s) d zero h k = absurd (omega arith)
over-all (x ∷ s) [] (suc n) h k = absurd (omega arith)
over-all (x ∷ s) (y ∷ d) (suc n) h k = ap (λ (l : List ℕ). x ∷ l) (over-all s d n (omega arith) (omega arith))
