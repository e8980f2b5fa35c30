-- Taking out a bit takes out that bit and no other, and status bit 6 is all that demand 3 leaves out of an adapter.
use mathlib.Core.Path.{◌≡◌, refl, sym, ap, subst, ◌∙◌}
use mathlib.Core.Bool.{Bool, true, false, cond}
use mathlib.Core.Logic.{◌≢◌}
use Prim.Native.Nat.{ℕ, suc, ◌+◌, ◌*◌, ◌-◌, ◌/◌, ◌%◌, ◌^◌, ◌<◌}
use native.Mathlib.Omega.{arith}
use native.Mathlib.Decide.{dec_lt}
use native.Mathlib.Nat.{div-add-mod', mul-add-div_right, add-mul, add-mul-div_right, add-mul-mod_self_right, div-eq_of_lt, mod-lt}
use lib.Dec.{eqb}
use lib.Pow.{pow_pos, pow-add, shr-shr}
use borrow.Author.Tests.{eqb-true, eqb-false, ne_eqb}
use Rattle.xosera.specs.Words.{bit, without_bit}
use Rattle.xosera.specs.Adapter.{Adapter}
use Rattle.order.specs.Order.{but_bit6}

module _ (k w : ℕ) where
  -- A number is what stands at bit k and above, and the rest below; the former is twice its half and the bit.
  halves : w / 2 ^ k * 2 ^ k ≡ w / 2 ^ k / 2 * 2 * 2 ^ k + w / 2 ^ k % 2 * 2 ^ k
  halves = sym (ap (λ (q : ℕ). q * 2 ^ k) (div-add-mod' (w / 2 ^ k) 2)) ∙ add-mul _ _ _

  -- So without bit k the bit is taken off that double, and it can be put back.
  taken_out : without_bit k w ≡ w / 2 ^ k / 2 * 2 * 2 ^ k + w % 2 ^ k
  unfolding without_bit
  taken_out = omega (arith, div-add-mod' w (2 ^ k), halves)

  put_back : without_bit k w + w / 2 ^ k % 2 * 2 ^ k ≡ w
  unfolding without_bit
  put_back = omega (arith, div-add-mod' w (2 ^ k), halves)

  -- The bit is clear, and all above it is as it was.
  above : without_bit k w / 2 ^ k ≡ w / 2 ^ k / 2 * 2
  above = rw (taken_out, mul-add-div_right (pow_pos k), div-eq_of_lt (mod-lt w (pow_pos k))) (omega arith)

  pub without-bit-clear : bit k (without_bit k w) ≡ false
  unfolding bit
  without-bit-clear = ne_eqb (without_bit k w / 2 ^ k % 2) 1 (omega (arith, above))

  higher-same : (d : ℕ) → without_bit k w / 2 ^ (k + (1 + d)) ≡ w / 2 ^ (k + (1 + d))
  higher-same d =
      let half : without_bit k w / 2 ^ k / 2 ≡ w / 2 ^ k / 2 = omega (arith, above) in
      rw (← (shr-shr (without_bit k w) k (1 + d)), ← (shr-shr w k (1 + d)), ← (shr-shr (without_bit k w / 2 ^ k) 1 d), ← (shr-shr (w / 2 ^ k) 1 d), half)

-- All below it is as it was: a lower bit stands in a number to which an even one was added.
lower-same : (j d w : ℕ) → without_bit (j + (1 + d)) w / 2 ^ j % 2 ≡ w / 2 ^ j % 2
lower-same j d w =
    let b : ℕ = w / 2 ^ (j + (1 + d)) % 2 in
    let even : b * 2 ^ (j + (1 + d)) ≡ b * 2 ^ d * 2 * 2 ^ j = rw (pow-add 2 j (1 + d), pow-add 2 1 d) (omega arith) in
    let whole : w ≡ without_bit (j + (1 + d)) w + b * 2 ^ d * 2 * 2 ^ j = omega (arith, put_back (j + (1 + d)) w, even) in
    sym (ap (λ (x : ℕ). x / 2 ^ j % 2) whole ∙ rw (add-mul-div_right _ _ (pow_pos j)) (add-mul-mod_self_right _ _ 2))

pub without-bit-others : (j k w : ℕ) → j ≢ k → bit j (without_bit k w) ≡ bit j w
unfolding bit
without-bit-others j k w ne = ap (λ (x : ℕ). eqb x 1) (go (dec_lt j k))
  where
    go : Dec (j < k) → without_bit k w / 2 ^ j % 2 ≡ w / 2 ^ j % 2
    go (yes h) = subst (λ (m : ℕ). without_bit m w / 2 ^ j % 2 ≡ w / 2 ^ j % 2) (omega arith) (lower-same j (k - suc j) w)
    go (no h) = subst (λ (m : ℕ). without_bit k w / 2 ^ m % 2 ≡ w / 2 ^ m % 2) (omega (arith, h)) (ap (λ (x : ℕ). x % 2) (higher-same k w (j - suc k)))

-- A number is known by bit k and by what is left without it.
digit : (x : ℕ) → x < 2 → x ≡ cond (eqb x 1) 1 0
digit x h = go (eqb x 1) refl
  where
    go : (b : Bool) → eqb x 1 ≡ b → x ≡ cond b 1 0
    go true e = eqb-true x 1 e
    go false e = omega (arith, eqb-false x 1 e)

without-bit-all : (k v w : ℕ) → without_bit k v ≡ without_bit k w → bit k v ≡ bit k w → v ≡ w
unfolding bit
without-bit-all k v w e b =
    let same : v / 2 ^ k % 2 ≡ w / 2 ^ k % 2 =
    digit (v / 2 ^ k % 2) (omega arith) ∙ ap (λ (x : Bool). cond x 1 0) b ∙ sym (digit (w / 2 ^ k % 2) (omega arith)) in
    sym (put_back k v) ∙ rw (e, same) (put_back k w)

-- An adapter is known by its status, or by bit 6 of it alone, and by what is left without that bit.
pub but-bit-6-all : (a b : Adapter) → but_bit6 a ≡ but_bit6 b → a.status ≡ b.status → a ≡ b
unfolding but_bit6
but-bit-6-all a b e s = λ i. record { side = (e i).side; status = s i; queued = (e i).queued; engine = (e i).engine; vram = (e i).vram }

pub but-bit-6-only : (a b : Adapter) → but_bit6 a ≡ but_bit6 b → bit 6 a.status ≡ bit 6 b.status → a ≡ b
unfolding but_bit6
but-bit-6-only a b e s = but-bit-6-all a b e (without-bit-all 6 a.status b.status (ap (λ (x : Adapter). x.status) e) s)
