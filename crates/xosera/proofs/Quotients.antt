-- Whole parts of a number, and what is left.
use mathlib.Core.Path.{◌≡◌, refl, ap, ◌∙◌}
use Prim.Native.Nat.{ℕ, zero, suc, ◌+◌, ◌*◌, ◌-◌, ◌/◌, ◌%◌, ◌^◌, ◌<◌, ◌≤◌}
use native.Mathlib.Omega.{arith}
use native.Mathlib.Nat.{mul-add-div_right, div-eq_of_lt, pow-succ'}
use Rattle.xosera.specs.Words.{nibble}

-- q parts of h, and less than one more.
pub quotient : (q h r : ℕ) → r < h → (q * h + r) / h ≡ q
quotient q h r k = mul-add-div_right (omega arith) q r ∙ rw (div-eq_of_lt k) (omega arith)

-- Four bits are a nibble.
nibbles : (j : ℕ) → 2 ^ (4 * j) ≡ 16 ^ j
nibbles zero = refl
nibbles (suc j) =
    let four : 4 * suc j ≡ suc (suc (suc (suc (4 * j)))) = omega arith in
    rw four (simp pow-succ' (omega (arith, nibbles j)))

-- A nibble counted from the left, by a shift: k nibbles are before it, and nibble `top` is the first.
pub nibble-at : (top w k : ℕ) → k ≤ top → w / 2 ^ (4 * top - k * 4) % 16 ≡ nibble (top - k) w
unfolding nibble
nibble-at top w k h =
    let behind : 4 * top - k * 4 ≡ 4 * (top - k) = omega arith in
    ap (λ (n : ℕ). w / n % 16) (ap (λ (n : ℕ). 2 ^ n) behind ∙ nibbles (top - k))
