-- What holds of the nine VRAM lengths holds of every accepted length.
use mathlib.Core.Path.{◌≡◌, subst, sym}
use mathlib.Core.Bool.{Bool, true, false, ◌||◌}
use Prim.Native.Nat.{ℕ, ◌-◌, ◌%◌, ◌≤◌}
use native.Mathlib.Omega.{arith}
use borrow.Author.Tests.{eqb-true}
use lib.Dec.{eqb}
use lib.Bits.{bit_and, and_mask}
use Rattle.xosera.specs.Memories.{is_vram_length}

-- One of two tests that was met.
either : {P : Type 0} (a b : Bool) → (a ≡ true → P) → (b ≡ true → P) → (a || b) ≡ true → P
either true b f g e = f e
either false b f g e = g e

pub nine : (P : ℕ → Type 0) → P 256 → P 512 → P 1024 → P 2048 → P 4096 → P 8192 → P 16384 → P 32768 → P 65536
    → (n : ℕ) → is_vram_length n ≡ true → P n
unfolding is_vram_length
nine P a b c d e f g h i n =
    either _ _ (either _ _ (either _ _ (either _ _ (either _ _ (either _ _ (either _ _ (either _ _ (is 256 a) (is 512 b)) (is 1024 c)) (is 2048 d))
    (is 4096 e)) (is 8192 f)) (is 16384 g)) (is 32768 h)) (is 65536 i)
  where
    is : (k : ℕ) → P k → eqb n k ≡ true → P n
    is k p t = subst P (sym (eqb-true n k t)) p

pub length-bounds : (n : ℕ) → is_vram_length n ≡ true → (256 ≤ n) × (n ≤ 65536)
length-bounds =
    nine (λ (n : ℕ). (256 ≤ n) × (n ≤ 65536)) (omega arith) (omega arith) (omega arith) (omega arith) (omega arith) (omega arith) (omega arith)
    (omega arith) (omega arith)

pub masked : (a n : ℕ) → is_vram_length n ≡ true → bit_and a (n - 1) ≡ a % n
masked a =
    nine (λ (n : ℕ). bit_and a (n - 1) ≡ a % n)
    (and_mask a 8) (and_mask a 9) (and_mask a 10) (and_mask a 11) (and_mask a 12) (and_mask a 13) (and_mask a 14) (and_mask a 15) (and_mask a 16)
