-- A word is its four nibbles, and bitwise operations go nibble by nibble.
use mathlib.Core.Path.{◌≡◌, refl, sym, ap, ap₂, ◌∙◌}
use mathlib.Core.Bool.{Bool, true, false, cond}
use Prim.Native.Nat.{ℕ, ◌+◌, ◌*◌, ◌-◌, ◌/◌, ◌%◌, ◌<◌, ◌^◌}
use native.Mathlib.Omega.{arith}
use lib.Bits.{bit_and, bit_or, and_block, or_block, and_lt, and_zero_r, and_mask, and_mod, or_zero_r, or_zero_l}
use lib.Dec.{T, eqb, eqb→eq}
use Rattle.xosera.specs.Words.{bit, nibble, chosen, merged}
use Rattle.words.specs.Spread.{spread}
use Rattle.xosera.proofs.MaskLaws.{nibbles-sum}
use Rattle.xosera.proofs.Tables.{◌and◌, below_each, all_below, below-tested}

-- A word of four nibbles, the highest first.
abbrev pub joined : ℕ → ℕ → ℕ → ℕ → ℕ
joined a b c d = ((a * 16 + b) * 16 + c) * 16 + d

pub split : (w : ℕ) → w < 65536 → w ≡ joined (nibble 3 w) (nibble 2 w) (nibble 1 w) (nibble 0 w)
split w h = omega (arith, nibbles-sum w h)

pub nibble-lt : (k w : ℕ) → nibble k w < 16
unfolding nibble
nibble-lt k w = omega arith

module _ (a b c d a' b' c' d' : ℕ) (hb : b < 16) (hc : c < 16) (hd : d < 16) (hb' : b' < 16) (hc' : c' < 16) (hd' : d' < 16) where
  pub and-joined : bit_and (joined a b c d) (joined a' b' c' d') ≡ joined (bit_and a a') (bit_and b b') (bit_and c c') (bit_and d d')
  and-joined = rw (and_block 4 ((a * 16 + b) * 16 + c) ((a' * 16 + b') * 16 + c') d d', and_block 4 (a * 16 + b) (a' * 16 + b') c c', and_block 4 a a' b b')

  pub or-joined : bit_or (joined a b c d) (joined a' b' c' d') ≡ joined (bit_or a a') (bit_or b b') (bit_or c c') (bit_or d d')
  or-joined = rw (or_block 4 ((a * 16 + b) * 16 + c) ((a' * 16 + b') * 16 + c') d d', or_block 4 (a * 16 + b) (a' * 16 + b') c c', or_block 4 a a' b b')

-- Four ones where the bit is set.
abbrev full : Bool → ℕ
full b = cond b 15 0

full-lt : (b : Bool) → full b < 16
full-lt true = omega arith
full-lt false = omega arith

scaled : (b : Bool) (k : ℕ) → cond b (15 * k) 0 ≡ full b * k
scaled true k = refl
scaled false k = omega arith

pub spread-joined : (m : ℕ) → spread m ≡ joined (full (bit 3 m)) (full (bit 2 m)) (full (bit 1 m)) (full (bit 0 m))
unfolding spread
spread-joined m = rw (scaled (bit 3 m) 4096, scaled (bit 2 m) 256, scaled (bit 1 m) 16, scaled (bit 0 m) 1) (omega arith)

-- One nibble: the new one under ones, the old one under zeros.
one : (b : Bool) (old new : ℕ) → old < 16 → new < 16 → bit_or (bit_and old (15 - full b)) (bit_and new (full b)) ≡ cond b new old
one true old new ho hn = rw (and_zero_r old, and_mask new 4, or_zero_l) (omega arith)
one false old new ho hn = rw (and_zero_r new, and_mask old 4, or_zero_r) (omega arith)

-- A word merged by a mask of 16 bits is the word merged nibble by nibble.
pub merged-bits : (m old new : ℕ) → old < 65536 → new < 65536 → bit_or (bit_and old (65535 - spread m)) (bit_and new (spread m)) ≡ merged m old new
unfolding merged chosen
merged-bits m old new ho hn =
    rw (spread-joined m, complement (bit 3 m) (bit 2 m) (bit 1 m) (bit 0 m)) (blended (bit 3 m) (bit 2 m) (bit 1 m) (bit 0 m))
  where
    complement : (p q r s : Bool) → 65535 - joined (full p) (full q) (full r) (full s) ≡ joined (15 - full p) (15 - full q) (15 - full r) (15 - full s)
    complement p q r s = omega (arith, full-lt p, full-lt q, full-lt r, full-lt s)

    rest_lt : (b : Bool) → 15 - full b < 16
    rest_lt b = omega arith

    o : (k : ℕ) → nibble k old < 16
    o k = nibble-lt k old

    n : (k : ℕ) → nibble k new < 16
    n k = nibble-lt k new

    old-lt : (k : ℕ) (b : Bool) → bit_and (nibble k old) (15 - full b) < 16
    old-lt k b = and_lt 4 (nibble k old) (15 - full b) (o k) (rest_lt b)

    new-lt : (k : ℕ) (b : Bool) → bit_and (nibble k new) (full b) < 16
    new-lt k b = and_lt 4 (nibble k new) (full b) (n k) (full-lt b)

    each : (k : ℕ) (b : Bool) → bit_or (bit_and (nibble k old) (15 - full b)) (bit_and (nibble k new) (full b)) ≡ cond b (nibble k new) (nibble k old)
    each k b = one b (nibble k old) (nibble k new) (o k) (n k)

    blended : (p q r s : Bool) →
        bit_or (bit_and old (joined (15 - full p) (15 - full q) (15 - full r) (15 - full s))) (bit_and new (joined (full p) (full q) (full r) (full s)))
        ≡ cond p (nibble 3 new) (nibble 3 old) * 16 ^ 3 + cond q (nibble 2 new) (nibble 2 old) * 16 ^ 2
        + cond r (nibble 1 new) (nibble 1 old) * 16 ^ 1 + cond s (nibble 0 new) (nibble 0 old) * 16 ^ 0
    blended p q r s =
        let ones = joined (full p) (full q) (full r) (full s) in
        let zeros = joined (15 - full p) (15 - full q) (15 - full r) (15 - full s) in
        ap₂ (λ (x y : ℕ). bit_or (bit_and x zeros) (bit_and y ones)) (split old ho) (split new hn)
        ∙ ap₂ bit_or
        (and-joined (nibble 3 old) (nibble 2 old) (nibble 1 old) (nibble 0 old) (15 - full p) (15 - full q) (15 - full r) (15 - full s)
        (o 2) (o 1) (o 0) (rest_lt q) (rest_lt r) (rest_lt s))
        (and-joined (nibble 3 new) (nibble 2 new) (nibble 1 new) (nibble 0 new) (full p) (full q) (full r) (full s)
        (n 2) (n 1) (n 0) (full-lt q) (full-lt r) (full-lt s))
        ∙ or-joined _ _ _ _ _ _ _ _
        (old-lt 2 q) (old-lt 1 r) (old-lt 0 s) (new-lt 2 q) (new-lt 1 r) (new-lt 0 s)
        ∙ rw (each 3 p, each 2 q, each 1 r, each 0 s) (omega arith)

-- A bit of a mask, also of the mask cut to four bits.
bit_cut : (m k : ℕ) → m % 16 / 2 ^ k % 2 ≡ m / 2 ^ k % 2 → bit k (m % 16) ≡ bit k m
unfolding bit
bit_cut m k e = ap (λ (x : ℕ). eqb x 1) e

spread_cut : (m : ℕ) → spread (m % 16) ≡ spread m
unfolding spread
spread_cut m = rw (bit_cut m 3 (omega arith), bit_cut m 2 (omega arith), bit_cut m 1 (omega arith), bit_cut m 0 (omega arith))

-- The lowest bit of a nibble of the spread is the mask's.
full-odd : (b : Bool) → eqb (full b % 2) 1 ≡ b
full-odd true = refl
full-odd false = refl

pub spread-bit : (m k : ℕ) → k < 4 → bit (4 * k) (spread m) ≡ bit k m
unfolding bit
spread-bit m =
    below_each (λ (k : ℕ). bit (4 * k) (spread m) ≡ bit k m) 4
    (lowest 0 (omega arith) and lowest 1 (omega (arith, small 0)) and lowest 2 (omega (arith, small 0, small 1))
    and lowest 3 (omega (arith, small 0, small 1, small 2)) and tt)
  where
    small : (k : ℕ) → full (bit k m) < 16
    small k = full-lt (bit k m)

    lowest : (k : ℕ)
        → joined (full (bit 3 m)) (full (bit 2 m)) (full (bit 1 m)) (full (bit 0 m)) / 2 ^ (4 * k) % 2 ≡ full (bit k m) % 2
        → bit (4 * k) (spread m) ≡ bit k m
    lowest k e = ap (λ (x : ℕ). eqb (x / 2 ^ (4 * k) % 2) 1) (spread-joined m) ∙ ap (λ (x : ℕ). eqb x 1) e ∙ full-odd (bit k m)

-- The mask's four bits moved apart and widened by multiplication.
abbrev pub paired : ℕ → ℕ
paired m = bit_and (m * 65) 0x0303

abbrev pub singled : ℕ → ℕ
singled m = bit_and (paired m * 9) 0x1111

right : ℕ → Bool
unfolding spread bit
right m = eqb (singled m * 15) (spread m)

pub spread-by-product : (m : ℕ) → singled (m % 16) * 15 ≡ spread m
unfolding spread bit right
spread-by-product m = eqb→eq (singled (m % 16) * 15) (spread (m % 16)) (below-tested 16 right tt (m % 16) (omega arith)) ∙ spread_cut m

-- What a mask's spread shows of it: one bit of each nibble, the four brought together by multiplication.
abbrev pub gather : ℕ → ℕ
gather b = bit_and b 0x1111 * 0x0249 / 2 ^ 9 % 16

back : ℕ → Bool
unfolding spread bit
back m = eqb (gather (spread m)) m

pub gather-spread : (m : ℕ) → gather (spread m) ≡ m % 16
unfolding spread bit back
gather-spread m = ap gather (sym (spread_cut m)) ∙ eqb→eq (gather (spread (m % 16))) (m % 16) (below-tested 16 back tt (m % 16) (omega arith))

-- Masks taken together before or after they are spread.
together : ℕ → ℕ → Bool
unfolding spread bit
together m n = eqb (spread (bit_and m n)) (bit_and (spread m) (spread n))

pub spread-and : (m n : ℕ) → spread (bit_and m n) ≡ bit_and (spread m) (spread n)
unfolding spread bit together
spread-and m n =
    let all : T (all_below 16 (together (m % 16))) = below-tested 16 (λ (x : ℕ). all_below 16 (together x)) tt (m % 16) (omega arith) in
    let cut : T (together (m % 16) (n % 16)) = below-tested 16 (together (m % 16)) all (n % 16) (omega arith) in
    sym (spread_cut (bit_and m n)) ∙ ap spread (and_mod m n 4)
    ∙ eqb→eq (spread (bit_and (m % 16) (n % 16))) (bit_and (spread (m % 16)) (spread (n % 16))) cut
    ∙ ap₂ bit_and (spread_cut m) (spread_cut n)
