-- Four words as one number: tested at once, each is tested.
use mathlib.Core.Path.{◌≡◌, refl, sym, ap, ap₂, ◌∙◌}
use mathlib.Core.Bool.{Bool, true, false, ◌&&◌, and_assoc}
use mathlib.Core.List.{List, [], ◌∷◌, ◌++◌}
use Prim.Native.Nat.{ℕ, ◌+◌, ◌-◌, ◌*◌, ◌/◌, ◌^◌, ◌<◌}
use native.Mathlib.Nat.{zero-mul, div-eq_of_lt, le-div_iff_mul-le, mul-pos}
use native.Mathlib.Omega.{arith}
use native.Mathlib.Decide.{ℕ_discrete, dec_lt}
use borrow.Author.Tests.{lt-leb, le-leb, eq-eqb, ne_eqb}
use lib.Bits.{bit_and, bit_or, and_block, and_high, or_add_and, and_le_l, and_le_r}
use lib.Dec.{eqb, leb}
use lib.Pow.{pow_pos, shr_mod}
use Rattle.xosera.specs.Ranges.{are_bytes}
use Rattle.ranges.specs.Lanes.{Lanes}

abbrev pub lanes : ℕ → ℕ → ℕ → ℕ → ℕ
lanes a b c d = ((d * 65536 + c) * 65536 + b) * 65536 + a

-- Bits are taken lane by lane.
lanes-and : (a b c d m n o p : ℕ) → a < 65536 → b < 65536 → c < 65536 → m < 65536 → n < 65536 → o < 65536
    → bit_and (lanes a b c d) (lanes m n o p) ≡ lanes (bit_and a m) (bit_and b n) (bit_and c o) (bit_and d p)
lanes-and a b c d m n o p fa fb fc fm fn fo =
    and_block 16 ((d * 65536 + c) * 65536 + b) ((p * 65536 + o) * 65536 + n) a m fa fm
    ∙ ap (λ (t : ℕ). t * 65536 + bit_and a m)
    (and_block 16 (d * 65536 + c) (p * 65536 + o) b n fb fn ∙ ap (λ (t : ℕ). t * 65536 + bit_and b n) (and_block 16 d p c o fc fo))

-- All four are 0 when the number is.
lanes-none : (a b c d : ℕ) → eqb (lanes a b c d) 0 ≡ eqb a 0 && eqb b 0 && eqb c 0 && eqb d 0
lanes-none a b c d = pick (ℕ_discrete a 0) (ℕ_discrete b 0) (ℕ_discrete c 0) (ℕ_discrete d 0)
  where
    pick : Dec (a ≡ 0) → Dec (b ≡ 0) → Dec (c ≡ 0) → Dec (d ≡ 0) → eqb (lanes a b c d) 0 ≡ eqb a 0 && eqb b 0 && eqb c 0 && eqb d 0
    pick (no x) s t u = simp (ne_eqb a 0 x) (ne_eqb (lanes a b c d) 0 (λ z. x (omega (arith, z))))
    pick (yes p) (no x) t u = simp (eq-eqb a 0 p, ne_eqb b 0 x) (ne_eqb (lanes a b c d) 0 (λ z. x (omega (arith, z))))
    pick (yes p) (yes q) (no x) u = simp (eq-eqb a 0 p, eq-eqb b 0 q, ne_eqb c 0 x) (ne_eqb (lanes a b c d) 0 (λ z. x (omega (arith, z))))
    pick (yes p) (yes q) (yes r) (no x) = simp (eq-eqb a 0 p, eq-eqb b 0 q, eq-eqb c 0 r, ne_eqb d 0 x) (ne_eqb (lanes a b c d) 0 (λ z. x (omega (arith, z))))
    pick (yes p) (yes q) (yes r) (yes v) = simp (eq-eqb a 0 p, eq-eqb b 0 q, eq-eqb c 0 r, eq-eqb d 0 v) (eq-eqb (lanes a b c d) 0 (omega (arith, p, q, r, v)))

pub lanes-are-none : (a b c d r : ℕ) → Lanes a b c d r → eqb r 0 ≡ eqb a 0 && eqb b 0 && eqb c 0 && eqb d 0
lanes-are-none a b c d r l = ap (λ (t : ℕ). eqb t 0) l.sum ∙ lanes-none a b c d

-- A word of `j + k` bits with none from bit `k` on.
pub low_bits : (a j k : ℕ) → a < 2 ^ (j + k) → eqb (bit_and a (2 ^ (j + k) - 2 ^ k)) 0 ≡ leb a (2 ^ k - 1)
low_bits a j k fits =
    ap (λ (t : ℕ). eqb t 0) (and_high a j k ∙ ap (λ (t : ℕ). t * 2 ^ k) (shr_mod j k fits)) ∙ pick (dec_lt a (2 ^ k))
  where
    pick : Dec (a < 2 ^ k) → eqb (a / 2 ^ k * 2 ^ k) 0 ≡ leb a (2 ^ k - 1)
    pick (yes l) = rw (div-eq_of_lt l, zero-mul (2 ^ k), le-leb a (2 ^ k - 1) (omega (arith, l)))
    pick (no d) =
        let high = (le-div_iff_mul-le {k = 2 ^ k} {x = 1} {y = a} (pow_pos k)).1 (omega (arith, d)) in
        ne_eqb (a / 2 ^ k * 2 ^ k) 0 (λ z. absurd (omega (arith, z, mul-pos high (pow_pos k)))) ∙ sym (lt-leb a (2 ^ k - 1) (omega (arith, d, pow_pos k)))

is_byte : (a : ℕ) → a < 65536 → eqb (bit_and a 0xFF00) 0 ≡ leb a 255
is_byte a = low_bits a 8 8

-- Four bytes.
pub lanes_bytes : (a b c d r : ℕ) → Lanes a b c d r → eqb (bit_and r 0xFF00FF00FF00FF00) 0 ≡ are_bytes (a ∷ b ∷ c ∷ d ∷ [])
unfolding are_bytes
lanes_bytes a b c d r l =
    ap (λ (t : ℕ). eqb (bit_and t 0xFF00FF00FF00FF00) 0) l.sum
    ∙ ap (λ (t : ℕ). eqb t 0) (lanes-and a b c d 0xFF00 0xFF00 0xFF00 0xFF00 l.a-fits l.b-fits l.c-fits (omega arith) (omega arith) (omega arith))
    ∙ lanes-none (bit_and a 0xFF00) (bit_and b 0xFF00) (bit_and c 0xFF00) (bit_and d 0xFF00)
    ∙ rw (is_byte a l.a-fits, is_byte b l.b-fits, is_byte c l.c-fits, is_byte d l.d-fits)
    (four_bytes (leb a 255) (leb b 255) (leb c 255) (leb d 255))
  where
    four_bytes : (p q s t : Bool) → p && q && s && t ≡ p && (q && (s && (t && true)))
    four_bytes false q s t = refl
    four_bytes true false s t = refl
    four_bytes true true false t = refl
    four_bytes true true true false = refl
    four_bytes true true true true = refl

-- Bits put together are all 0 when each is.
pub or-none : (a b : ℕ) → eqb (bit_or a b) 0 ≡ eqb a 0 && eqb b 0
or-none a b = pick (ℕ_discrete a 0) (ℕ_discrete b 0)
  where
    sum : bit_or a b + bit_and a b ≡ a + b
    sum = or_add_and a b

    pick : Dec (a ≡ 0) → Dec (b ≡ 0) → eqb (bit_or a b) 0 ≡ eqb a 0 && eqb b 0
    pick (no d) e = simp (ne_eqb a 0 d) (ne_eqb (bit_or a b) 0 (λ z. absurd (omega (arith, sum, and_le_r a b))))
    pick (yes p) (no d) = simp (eq-eqb a 0 p, ne_eqb b 0 d) (ne_eqb (bit_or a b) 0 (λ z. absurd (omega (arith, sum, and_le_l a b))))
    pick (yes p) (yes q) = simp (eq-eqb a 0 p, eq-eqb b 0 q) (eq-eqb (bit_or a b) 0 (omega (arith, sum)))

-- Four numbers put together are 0 when each is.
pub four-none : (x y z w : ℕ) {p q r s : Bool} → eqb x 0 ≡ p → eqb y 0 ≡ q → eqb z 0 ≡ r → eqb w 0 ≡ s → eqb (bit_or (bit_or x y) (bit_or z w)) 0 ≡
    (p && q) && (r && s)
four-none x y z w ep eq er es =
    or-none (bit_or x y) (bit_or z w) ∙ ap₂ ◌&&◌ (or-none x y ∙ ap₂ ◌&&◌ ep eq) (or-none z w ∙ ap₂ ◌&&◌ er es)

pub bytes-append : (xs ys : List ℕ) → are_bytes xs && are_bytes ys ≡ are_bytes (xs ++ ys)
unfolding are_bytes
bytes-append [] ys = refl
bytes-append (x ∷ xs) ys = and_assoc (leb x 255) (are_bytes xs) (are_bytes ys) ∙ ap (λ (t : Bool). leb x 255 && t) (bytes-append xs ys)

-- Fourteen tests in four groups, two of them made twice.
pub grouped : (a b c d e f g h i j k l m n : Bool)
    → (a && b && c && d) && (e && f && g && h) && ((i && j && k && l) && (k && l && m && n))
    ≡ a && b && c && d && (e && f && g && h && i && j && k && l && m && n)
grouped false b c d e f g h i j k l m n = refl
grouped true false c d e f g h i j k l m n = refl
grouped true true false d e f g h i j k l m n = refl
grouped true true true false e f g h i j k l m n = refl
grouped true true true true false f g h i j k l m n = refl
grouped true true true true true false g h i j k l m n = refl
grouped true true true true true true false h i j k l m n = refl
grouped true true true true true true true false i j k l m n = refl
grouped true true true true true true true true false j k l m n = refl
grouped true true true true true true true true true false k l m n = refl
grouped true true true true true true true true true true false l m n = refl
grouped true true true true true true true true true true true false m n = refl
grouped true true true true true true true true true true true true false n = refl
grouped true true true true true true true true true true true true true n = refl
