-- The colour test on all nibbles of a word at once.
use mathlib.Core.Path.{◌≡◌, refl, sym, ap, ap₂, ◌∙◌}
use mathlib.Core.Bool.{Bool, true, false, cond, ◌&&◌}
use Prim.Native.Nat.{ℕ, ◌+◌, ◌*◌, ◌/◌, ◌%◌, ◌<◌, ◌≤◌}
use native.Mathlib.Omega.{arith}
use borrow.Author.Tests.{eqb-true, eqb-false, eq-eqb, ne_eqb}
use lib.Bits.{bit_and, bit_or, bit_xor, and_block, or_block, xor_block, or_lt, xor_lt, and_le_l, and_le_r, xor_add_and, xor_self}
use lib.Dec.{eqb, eqb→eq}
use Rattle.xosera.specs.Words.{bit, nibble, is_colour, colour_mask}
use Rattle.words.specs.Spread.{spread}
use Rattle.xosera.proofs.Tables.{below-tested}
use Rattle.words.proofs.BothWays.{ways}
use Rattle.words.proofs.Nibbles.{joined, split, nibble-lt}

-- Two numbers are equal where their xor is 0.
xor-none : (a b : ℕ) → bit_xor a b ≡ 0 → a ≡ b
xor-none a b e = omega (arith, xor_add_and a b, and_le_l a b, and_le_r a b)

xor-eqb : (a b : ℕ) → eqb (bit_xor a b) 0 ≡ eqb a b
xor-eqb a b = go (eqb a b) refl
  where
    go : (same : Bool) → eqb a b ≡ same → eqb (bit_xor a b) 0 ≡ same
    go true e = eq-eqb (bit_xor a b) 0 (rw (eqb-true a b e) (xor_self b))
    go false e = ne_eqb (bit_xor a b) 0 (λ z. eqb-false a b e (xor-none a b z))

-- The top bits, `high`, of the nibbles that are not 0; `low` has the other bits.
abbrev tops_of : ℕ → ℕ → ℕ → ℕ
tops_of low high x = bit_and (bit_or (bit_and x low + low) x) high

abbrev found : ℕ → Bool
found x = eqb (tops_of 7 8 x) (cond (eqb x 0) 0 8)

-- One nibble of S and of T.
single : (s t : ℕ) → s < 16 → t < 16 → tops_of 7 8 (bit_xor s t) ≡ cond (eqb s t) 0 8
single s t hs ht =
    eqb→eq (tops_of 7 8 (bit_xor s t)) (cond (eqb (bit_xor s t) 0) 0 8) (below-tested 16 found tt (bit_xor s t) (xor_lt 4 s t hs ht))
    ∙ ap (λ (b : Bool). cond b 0 8) (xor-eqb s t)

-- A nibble more.
another : (low high ss ts s t : ℕ) → s < 16 → t < 16
    → tops_of (low * 16 + 7) (high * 16 + 8) (bit_xor (ss * 16 + s) (ts * 16 + t)) ≡ tops_of low high (bit_xor ss ts) * 16 + cond (eqb s t) 0 8
another low high ss ts s t hs ht =
    let xs = bit_xor ss ts in
    let x = bit_xor s t in
    let small : x < 16 = xor_lt 4 s t hs ht in
    let sum : bit_and x 7 + 7 < 16 = omega (arith, and_le_r x 7) in
    let carried : (bit_and xs low * 16 + bit_and x 7) + (low * 16 + 7) ≡ (bit_and xs low + low) * 16 + (bit_and x 7 + 7) = omega arith in
    rw (
      xor_block 4 ss ts s t hs ht,
      and_block 4 xs low x 7 small (omega arith),
      carried,
      or_block 4 (bit_and xs low + low) xs (bit_and x 7 + 7) x sum small,
      and_block 4 (bit_or (bit_and xs low + low) xs) high (bit_or (bit_and x 7 + 7) x) 8 (or_lt 4 (bit_and x 7 + 7) x sum small) (omega arith),
      single s t hs ht,
    )

-- Top bits where a nibble is not equal.
abbrev marks : Bool → Bool → Bool → Bool → ℕ
marks p q r s = joined (cond p 0 8) (cond q 0 8) (cond r 0 8) (cond s 0 8)

-- Nibble k of S and nibble j of T are equal.
abbrev same : ℕ → ℕ → ℕ → ℕ → Bool
same s t k j = eqb (nibble k s) (nibble j t)

-- T's two nibbles twice.
twice : (t : ℕ) → t < 256 → t * 0x0101 ≡ joined (nibble 1 t) (nibble 0 t) (nibble 1 t) (nibble 0 t)
unfolding nibble
twice t h = omega arith

-- The nibbles of S that differ from T's.
abbrev pub colour_tops : ℕ → ℕ → ℕ
colour_tops t s = tops_of 0x7777 0x8888 (bit_xor s (t * 0x0101))

tops-marks : (t s : ℕ) → t < 256 → s < 65536 → colour_tops t s ≡ marks (same s t 3 1) (same s t 2 0) (same s t 1 1) (same s t 0 0)
tops-marks t s ht hs =
    ap₂ (λ (a b : ℕ). tops_of 0x7777 0x8888 (bit_xor a b)) (split s hs) (twice t ht)
    ∙ more 0x777 0x888 _ _ 0 0
    ∙ ap (λ (z : ℕ). z * 16 + cond (same s t 0 0) 0 8) (more 0x77 0x88 _ _ 1 1)
    ∙ ap (λ (z : ℕ). (z * 16 + cond (same s t 1 1) 0 8) * 16 + cond (same s t 0 0) 0 8) (more 7 8 _ _ 2 0)
    ∙ ap (λ (z : ℕ). joined z (cond (same s t 2 0) 0 8) (cond (same s t 1 1) 0 8) (cond (same s t 0 0) 0 8))
    (single (nibble 3 s) (nibble 1 t) (nibble-lt 3 s) (nibble-lt 1 t))
  where
    more : (low high ss ts k j : ℕ) →
        tops_of (low * 16 + 7) (high * 16 + 8) (bit_xor (ss * 16 + nibble k s) (ts * 16 + nibble j t))
        ≡ tops_of low high (bit_xor ss ts) * 16 + cond (same s t k j) 0 8
    more low high ss ts k j = another low high ss ts (nibble k s) (nibble j t) (nibble-lt k s) (nibble-lt j t)

-- A mask by the nibbles that are equal.
abbrev unequal : Bool → Bool → Bool → Bool → ℕ
unequal p q r s = cond p 0 8 + cond q 0 4 + cond r 0 2 + cond s 0 1

nibbles_right : Bool → Bool → Bool → Bool → Bool
unfolding spread bit
nibbles_right p q r s = eqb (marks p q r s / 8 * 15) (spread (unequal p q r s))

-- By nibbles, each for itself.
pub nibble-room : (t s : ℕ) → colour_tops t s ≤ 0x8888
nibble-room t s = and_le_r (bit_or (bit_and (bit_xor s (t * 0x0101)) 0x7777 + 0x7777) (bit_xor s (t * 0x0101))) 0x8888

pub nibble-bits : (t s : ℕ) → t < 256 → s < 65536 → colour_tops t s / 8 * 15 ≡ spread (colour_mask false t s)
unfolding colour_mask is_colour spread bit nibbles_right
nibble-bits t s ht hs =
    let p = same s t 3 1 in
    let q = same s t 2 0 in
    let r = same s t 1 1 in
    let u = same s t 0 0 in
    rw (tops-marks t s ht hs) (eqb→eq (marks p q r u / 8 * 15) (spread (unequal p q r u)) (ways nibbles_right tt p q r u))

-- The lower nibble of a byte for both, of which one differs where the byte does.
abbrev pub joined_tops : ℕ → ℕ
joined_tops z = bit_and (bit_or z (z / 16)) 0x0808

bytes_right : Bool → Bool → Bool → Bool → Bool
unfolding spread bit
bytes_right p q r s = eqb (joined_tops (marks p q r s) / 8 * 255) (spread (unequal (p && q) (p && q) (r && s) (r && s)))

byte-eqb : (a b c d : ℕ) → b < 16 → d < 16 → (eqb a c && eqb b d) ≡ eqb (a * 16 + b) (c * 16 + d)
byte-eqb a b c d hb hd = go (eqb a c) (eqb b d) refl refl
  where
    go : (p q : Bool) → eqb a c ≡ p → eqb b d ≡ q → (p && q) ≡ eqb (a * 16 + b) (c * 16 + d)
    go true true e f = sym (eq-eqb (a * 16 + b) (c * 16 + d) (omega (arith, eqb-true a c e, eqb-true b d f)))
    go true false e f = sym (ne_eqb (a * 16 + b) (c * 16 + d) (λ z. eqb-false b d f (omega (arith, eqb-true a c e))))
    go false q e f = sym (ne_eqb (a * 16 + b) (c * 16 + d) (λ z. eqb-false a c e (omega arith)))

-- A byte of S against T.
whole : (s t : ℕ) → t < 256 → (k : ℕ) → (same s t (k + 1) 1 && same s t k 0) ≡ eqb (nibble (k + 1) s * 16 + nibble k s) t
unfolding nibble
whole s t h k =
    byte-eqb (nibble (k + 1) s) (nibble k s) (nibble 1 t) (nibble 0 t) (nibble-lt k s) (nibble-lt 0 t)
    ∙ ap (eqb (nibble (k + 1) s * 16 + nibble k s)) (omega arith)

-- By bytes, both nibbles of each.
pub byte-room : (z : ℕ) → joined_tops z ≤ 0x0808
byte-room z = and_le_r (bit_or z (z / 16)) 0x0808

pub byte-bits : (t s : ℕ) → t < 256 → s < 65536 → joined_tops (colour_tops t s) / 8 * 255 ≡ spread (colour_mask true t s)
unfolding nibble colour_mask is_colour spread bit bytes_right
byte-bits t s ht hs =
    let p = same s t 3 1 in
    let q = same s t 2 0 in
    let r = same s t 1 1 in
    let u = same s t 0 0 in
    let high : (p && q) ≡ eqb (s / 256 % 256) t = whole s t ht 2 ∙ ap (λ (b : ℕ). eqb b t) (omega arith) in
    let low : (r && u) ≡ eqb (s / 1 % 256) t = whole s t ht 0 ∙ ap (λ (b : ℕ). eqb b t) (omega arith) in
    rw (tops-marks t s ht hs)
    (eqb→eq (joined_tops (marks p q r u) / 8 * 255) (spread (unequal (p && q) (p && q) (r && u) (r && u))) (ways bytes_right tt p q r u)
    ∙ ap₂ (λ (h l : Bool). spread (unequal h h l l)) high low)
