-- Bytes compared one by one.
use mathlib.Core.Path.{◌≡◌, refl, subst, ap, ap₂}
use mathlib.Core.Bool.{Bool, true, false, ◌&&◌, and-eq-true_iff, false≢true}
use mathlib.Core.List.{List, [], ◌∷◌, ◌++◌}
use Prim.Native.Nat.{ℕ}
use native.Mathlib.Omega.{arith}
use borrow.Author.Tests.{eq-eqb, eqb-true}
use lib.Dec.{eqb}
use lib.ListN.{length}
use lib.Pointwise.{pointwise}
use Rattle.std.specs.Bool.{Decides}
use Rattle.saved_file.specs.SavedFile.{same_bytes}

-- It is std's test of two slices of bytes.
pub pairwise_same : (a b : List ℕ) → pointwise eqb a b ≡ same_bytes a b
unfolding same_bytes
pairwise_same [] [] = refl
pairwise_same [] (y ∷ b) = refl
pairwise_same (x ∷ a) [] = refl
pairwise_same (x ∷ a) (y ∷ b) = ap (λ (t : Bool). eqb x y && t) (pairwise_same a b)

-- It holds of equal lists and of no others.
pub same_refl : (a : List ℕ) → same_bytes a a ≡ true
unfolding same_bytes
same_refl [] = refl
same_refl (x ∷ a) = rw (eq-eqb x x refl) (same_refl a)

pub same-equal : (a b : List ℕ) → same_bytes a b ≡ true → a ≡ b
unfolding same_bytes
same-equal [] [] h = refl
same-equal [] (y ∷ b) h = absurd (false≢true h)
same-equal (x ∷ a) [] h = absurd (false≢true h)
same-equal (x ∷ a) (y ∷ b) h = let k = simp and-eq-true_iff at h in ap₂ ◌∷◌ (eqb-true x y k.0) (same-equal a b k.1)

pub same_decides : (a b : List ℕ) → Decides (same_bytes a b) (a ≡ b)
same_decides a b = (same-equal a b, λ e. subst (λ t. same_bytes a t ≡ true) e (same_refl a))

-- Both parts, where the first ones are of one length.
pub same-append : (a c b d : List ℕ) → length a ≡ length b → same_bytes (a ++ c) (b ++ d) ≡ (same_bytes a b && same_bytes c d)
unfolding same_bytes
same-append [] c [] d h = refl
same-append [] c (y ∷ b) d h = absurd (omega arith)
same-append (x ∷ a) c [] d h = absurd (omega arith)
same-append (x ∷ a) c (y ∷ b) d h = go (eqb x y) _ _ _ (same-append a c b d (omega arith))
  where
    go : (t p q r : Bool) → p ≡ (q && r) → t && p ≡ (t && q && r)
    go true p q r e = e
    go false p q r e = refl
