-- The write mask bit by bit, and a stored word nibble by nibble.
use mathlib.Core.Path.{◌≡◌, refl, sym, ap, subst, subst₂, ◌∙◌}
use mathlib.Core.Bool.{Bool, true, false, cond, not, ◌&&◌, ◌||◌}
use mathlib.Core.List.{List}
use Prim.Native.Nat.{ℕ, ◌+◌, ◌*◌, ◌/◌, ◌%◌, ◌^◌, ◌<◌}
use native.Mathlib.Omega.{arith}
use native.Mathlib.Decide.{ℕ_discrete}
use lib.Bits.{bit_and, and_shr, and_mod}
use lib.Dec.{eqb}
use lib.ListN.{length}
use Rattle.xosera.specs.declared.Engine.{Engine}
use Rattle.xosera.specs.Words.{bit, nibble, chosen, merged, is_colour, colour_mask}
use Rattle.xosera.specs.Fields.{colour_tested, whole_bytes, test_colour, first_edge, last_edge}
use Rattle.xosera.specs.Memories.{place, word, Store, stored}
use Rattle.xosera.specs.Blitter.{first_mask, last_word, last_mask, test_mask, write_mask}
use Rattle.xosera.proofs.Branches.{cond_no, cond_either}
use Rattle.xosera.proofs.Tables.{◌and◌, below_each}
use Rattle.xosera.proofs.MaskLaws.{stored-none, stored_there}
use Rattle.xosera.proofs.EngineLaws.{stored-length}
use Rattle.masks.specs.Masks.{first_holds, last_holds, test_holds}

-- A bit of two numbers taken together is set where both have it.
both-set : (x y : ℕ) → x < 2 → y < 2 → eqb (bit_and x y) 1 ≡ eqb x 1 && eqb y 1
both-set x y hx hy = go (ℕ_discrete x 0) (ℕ_discrete y 0)
  where
    one : {n : ℕ} → n < 2 → (n ≡ 0 → ⊥) → n ≡ 1
    one h d = omega (arith, d)

    at : {m n : ℕ} → x ≡ m → y ≡ n → eqb (bit_and m n) 1 ≡ eqb m 1 && eqb n 1 → eqb (bit_and x y) 1 ≡ eqb x 1 && eqb y 1
    at p q = subst₂ (λ (m n : ℕ). eqb (bit_and m n) 1 ≡ eqb m 1 && eqb n 1) (sym p) (sym q)

    go : Dec (x ≡ 0) → Dec (y ≡ 0) → eqb (bit_and x y) 1 ≡ eqb x 1 && eqb y 1
    go (yes p) (yes q) = at p q refl
    go (yes p) (no q) = at p (one hy q) refl
    go (no p) (yes q) = at (one hx p) q refl
    go (no p) (no q) = at (one hx p) (one hy q) refl

and-bit : (k a b : ℕ) → bit k (bit_and a b) ≡ bit k a && bit k b
unfolding bit
and-bit k a b =
    ap (λ (n : ℕ). eqb (n % 2) 1) (and_shr a b k) ∙ ap (λ (n : ℕ). eqb n 1) (and_mod (a / 2 ^ k) (b / 2 ^ k) 1)
    ∙ both-set (a / 2 ^ k % 2) (b / 2 ^ k % 2) (omega arith) (omega arith)

-- What holds at each of four places.
at-four : (P : ℕ → Type 0) → P 0 → P 1 → P 2 → P 3 → (k : ℕ) → k < 4 → P k
at-four P p q r s = below_each P 4 (p and q and r and s and tt)

-- An edge mask holds a nibble back where it applies and the bit is clear.
edge-bit : (applies : Bool) (edge k : ℕ) → k < 4 → bit k (cond applies edge 15) ≡ not (applies && not (bit k edge))
unfolding bit
edge-bit true edge k h = twice (bit k edge)
  where
    twice : (b : Bool) → b ≡ not (not b)
    twice true = refl
    twice false = refl
edge-bit false edge k h = at-four (λ (j : ℕ). bit j 15 ≡ true) refl refl refl refl k h

-- A colour mask is four digits of one bit, a merged word four of four bits.
scaled : (b : Bool) (n : ℕ) → cond b 0 n ≡ cond b 0 1 * n
scaled true n = omega arith
scaled false n = omega arith

clear-is-1 : (b : Bool) → eqb (cond b 0 1) 1 ≡ not b
clear-is-1 true = refl
clear-is-1 false = refl

colour-bit : (bytes : Bool) (t s k : ℕ) → k < 4 → bit k (colour_mask bytes t s) ≡ not (is_colour bytes t s k)
unfolding colour_mask bit
colour-bit bytes t s =
    at-four (λ (k : ℕ). bit k (colour_mask bytes t s) ≡ not (is_colour bytes t s k))
    (digit 0 (rw sum (omega (arith, small 0)))) (digit 1 (rw sum (omega (arith, small 0, small 1))))
    (digit 2 (rw sum (omega (arith, small 0, small 1, small 2)))) (digit 3 (rw sum (omega (arith, small 0, small 1, small 2, small 3))))
  where
    one : ℕ → ℕ
    one k = cond (is_colour bytes t s k) 0 1

    small : (k : ℕ) → one k < 2
    small k = cond_either (λ (n : ℕ). n < 2) (is_colour bytes t s k) 0 1 (omega arith) (omega arith)

    sum : colour_mask bytes t s ≡ ((one 3 * 2 + one 2) * 2 + one 1) * 2 + one 0
    sum =
        rw (scaled (is_colour bytes t s 3) 8, scaled (is_colour bytes t s 2) 4, scaled (is_colour bytes t s 1) 2) (omega arith)

    digit : (k : ℕ) → colour_mask bytes t s / 2 ^ k % 2 ≡ one k → bit k (colour_mask bytes t s) ≡ not (is_colour bytes t s k)
    digit k e = ap (λ (n : ℕ). eqb n 1) e ∙ clear-is-1 (is_colour bytes t s k)

-- Each of the three masks has the nibbles that it does not hold back, and the write mask those that none does.
module _ (e : Engine) (k : ℕ) (h : k < 4) where
  pub first-mask-bit : bit k (first_mask e) ≡ not (first_holds e k)
  unfolding first_mask
  first-mask-bit = edge-bit (eqb e.word 0) (first_edge e.regs.shift) k h

  pub last-mask-bit : bit k (last_mask e) ≡ not (last_holds e k)
  unfolding last_mask
  last-mask-bit = edge-bit (last_word e) (last_edge e.regs.shift) k h

  pub test-mask-bit : (s : ℕ) → bit k (test_mask e s) ≡ not (test_holds e s k)
  unfolding test_mask bit
  test-mask-bit s = go (colour_tested e.regs.ctrl)
    where
      go : (tested : Bool) → bit k (cond tested (colour_mask (whole_bytes e.regs.ctrl) (test_colour e.regs.ctrl) s) 15)
          ≡ not (tested && is_colour (whole_bytes e.regs.ctrl) (test_colour e.regs.ctrl) s k)
      go true = colour-bit (whole_bytes e.regs.ctrl) (test_colour e.regs.ctrl) s k h
      go false = at-four (λ (j : ℕ). bit j 15 ≡ true) refl refl refl refl k h

none-holds : (f l t : Bool) → (not f && not l) && not t ≡ not (f || l || t)
none-holds true l t = refl
none-holds false true t = refl
none-holds false false t = refl

pub write-mask-bit : (e : Engine) (s k : ℕ) → k < 4 → bit k (write_mask e s) ≡ not (first_holds e k || last_holds e k || test_holds e s k)
unfolding write_mask
write-mask-bit e s k h =
    and-bit k (bit_and (first_mask e) (last_mask e)) (test_mask e s) ∙ ap (λ (b : Bool). b && bit k (test_mask e s)) (and-bit k (first_mask e) (last_mask e))
    ∙ rw (first-mask-bit e k h, last-mask-bit e k h, test-mask-bit e k h s) (none-holds (first_holds e k) (last_holds e k) (test_holds e s k))

-- Nibble k of a word written under a mask is the new one where bit k is set and the old one where it is clear.
pub nibble-merged : (m old new k : ℕ) → k < 4 → nibble k (merged m old new) ≡ cond (bit k m) (nibble k new) (nibble k old)
unfolding merged chosen nibble
nibble-merged m old new =
    at-four (λ (k : ℕ). nibble k (merged m old new) ≡ c k)
    (omega (arith, small 0)) (omega (arith, small 0, small 1)) (omega (arith, small 0, small 1, small 2)) (omega (arith, small 0, small 1, small 2, small 3))
  where
    c : ℕ → ℕ
    c k = cond (bit k m) (nibble k new) (nibble k old)

    small : (k : ℕ) → c k < 16
    small k = cond_either (λ (n : ℕ). n < 16) (bit k m) (nibble k new) (nibble k old) (omega arith) (omega arith)

-- So it is of a store to VRAM, under mask 0 too.
pub stored-nibble : (s : Store) (v : List ℕ) → 0 < length v → (k : ℕ) → k < 4 →
    nibble k (word (stored s v) s.addr) ≡ cond (bit k s.mask) (nibble k s.value) (nibble k (word v s.addr))
unfolding word place bit
stored-nibble s v long k h = go (ℕ_discrete s.mask 0)
  where
    none-set : (m : ℕ) → m ≡ 0 → bit k m ≡ false
    none-set m e = subst (λ (n : ℕ). bit k n ≡ false) (sym e) (at-four (λ (j : ℕ). bit j 0 ≡ false) refl refl refl refl k h)

    go : Dec (s.mask ≡ 0) → nibble k (word (stored s v) s.addr) ≡ cond (bit k s.mask) (nibble k s.value) (nibble k (word v s.addr))
    go (yes z) = rw (stored-none s v z) (sym (cond_no _ _ (none-set s.mask z)))
    go (no d) =
        rw (stored-length s v) (ap (nibble k) (stored_there s v d long) ∙ nibble-merged s.mask (word v s.addr) s.value k h)
