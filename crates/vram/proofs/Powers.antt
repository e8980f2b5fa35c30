-- A number that has no bit in common with the one before it is a power of two.
use mathlib.Core.Path.{◌≡◌, refl, sym, subst, ◌∙◌}
use mathlib.Core.Bool.{Bool, true, false, true≢false, ◌||◌}
use Prim.Native.Nat.{ℕ, zero, suc, ◌+◌, ◌-◌, ◌*◌, ◌/◌, ◌%◌, ◌^◌, ◌≤◌, min}
use native.Mathlib.Nat.{pow-suc}
use native.Mathlib.Omega.{arith}
use native.Mathlib.Decide.{ℕ_discrete}
use borrow.Author.Tests.{lt-leb, eq-eqb, ne_eqb}
use lib.Bits.{bit_and, and_step, and_self}
use lib.Dec.{T, eqb, leb}
use Rattle.xosera.specs.Memories.{is_vram_length}
use Rattle.xosera.proofs.Tables.{below-tested}
use Rattle.vram.proofs.Lengths.{nine, length-bounds}

power : (P : ℕ → Type 0) (k : ℕ) → ((j : ℕ) → j ≤ k → P (2 ^ j)) → (n : ℕ) → 1 ≤ n → n ≤ 2 ^ k → bit_and n (n - 1) ≡ 0 → P n
power P zero at n lo hi z = subst P (omega (arith, lo, hi)) (at 0 (omega arith))
power P (suc k) at n lo hi z =
    pick (ℕ_discrete (n % 2) 0) (ℕ_discrete (n / 2) 0)
    (power (λ (m : ℕ). P (m * 2)) k (λ j l. subst P (pow-suc 2 j) (at (suc j) (omega (arith, l)))) (n / 2))
  where
    half : bit_and (n / 2) ((n - 1) / 2) * 2 + min (n % 2) ((n - 1) % 2) ≡ 0
    half = sym (and_step n (n - 1)) ∙ z

    none : (m : ℕ) → (n - 1) / 2 ≡ m → bit_and (n / 2) m ≡ 0
    none m e = subst (λ (i : ℕ). bit_and (n / 2) i ≡ 0) e (omega (arith, half))

    pick : Dec (n % 2 ≡ 0) → Dec (n / 2 ≡ 0) → (1 ≤ n / 2 → n / 2 ≤ 2 ^ k → bit_and (n / 2) (n / 2 - 1) ≡ 0 → P (n / 2 * 2)) → P n
    pick (yes even) d less =
        subst P (omega (arith, even)) (less (omega (arith, lo, even)) (omega (arith, hi, pow-suc 2 k)) (none (n / 2 - 1) (omega (arith, lo, even))))
    pick (no odd) (yes small) less = subst P (omega (arith, lo, small, odd)) (at 0 (omega arith))
    pick (no odd) (no large) less = absurd (large (sym (and_self (n / 2)) ∙ none (n / 2) (omega (arith, odd))))

-- The powers from 256 to 65,536 are the lengths.
abbrev listed : ℕ → Bool
listed j = leb (2 ^ j) 255 || is_vram_length (2 ^ j)

left_out : (a b : Bool) → T (a || b) → a ≡ false → b ≡ true
left_out true b t e = absurd (true≢false e)
left_out false true t e = refl
left_out false false t e = elim t [ ]

pub power-length : (n : ℕ) → 256 ≤ n → n ≤ 65536 → bit_and n (n - 1) ≡ 0 → is_vram_length n ≡ true
unfolding is_vram_length
power-length n lo hi z =
    power (λ (m : ℕ). 256 ≤ m → is_vram_length m ≡ true) 16
    (λ j l h. left_out (leb (2 ^ j) 255) (is_vram_length (2 ^ j)) (below-tested 17 listed tt j (omega (arith, l))) (lt-leb (2 ^ j) 255 (omega (arith, h))))
    n (omega (arith, lo)) hi z lo

pub length-power : (n : ℕ) → is_vram_length n ≡ true → bit_and n (n - 1) ≡ 0
length-power = nine (λ (n : ℕ). bit_and n (n - 1) ≡ 0) refl refl refl refl refl refl refl refl refl

-- The test of a length.
pub tested : (n : ℕ) → 256 ≤ n → n ≤ 65536 → eqb (bit_and n (n - 1)) 0 ≡ is_vram_length n
tested n lo hi = pick (is_vram_length n) refl (ℕ_discrete (bit_and n (n - 1)) 0)
  where
    pick : (b : Bool) → is_vram_length n ≡ b → Dec (bit_and n (n - 1) ≡ 0) → eqb (bit_and n (n - 1)) 0 ≡ is_vram_length n
    pick b e (yes z) = eq-eqb _ 0 z ∙ sym (power-length n lo hi z)
    pick true e (no d) = absurd (d (length-power n e))
    pick false e (no d) = ne_eqb _ 0 d ∙ sym e

-- No number out of these bounds is a length.
pub no_length : (n : ℕ) → (256 ≤ n → n ≤ 65536 → ⊥) → false ≡ is_vram_length n
no_length n out = pick (is_vram_length n) refl
  where
    pick : (b : Bool) → is_vram_length n ≡ b → false ≡ is_vram_length n
    pick true e = absurd (out (length-bounds n e).0 (length-bounds n e).1)
    pick false e = sym e
