-- Words of 16 bits, their bytes, nibbles and bits: the arithmetic of document 01, "Host bytes" and "The blitter".
use Rattle.std.specs.Prelude.{Bool, cond, ℕ, ◌+◌, ◌*◌, ◌-◌, ◌/◌, ◌%◌, ◌^◌, eqb}
use Rattle.std.specs.Int.Bits.{bit_and, bit_xor}

-- A sum of 16-bit numbers: it runs past 65,535 to 0, so 0xFFFF adds -1 ("Host bytes").
unfoldable pub wrap : ℕ → ℕ → ℕ
wrap a b = (a + b) % 65536

-- Bit k of a number, 0 the lowest.
unfoldable pub bit : ℕ → ℕ → Bool
bit k w = eqb (w / 2 ^ k % 2) 1

-- Nibble k of a word, 0 the lowest: bits 4k + 3 to 4k.
unfoldable pub nibble : ℕ → ℕ → ℕ
nibble k w = w / 16 ^ k % 16

-- A number with bit k taken out.
unfoldable pub without_bit : ℕ → ℕ → ℕ
without_bit k w = w - w / 2 ^ k % 2 * 2 ^ k

-- Nibble k of `new` where bit k of the mask is set, of `old` where it is clear, in its place.
unfoldable pub chosen : ℕ → ℕ → ℕ → ℕ → ℕ
chosen mask old new k = cond (bit k mask) (nibble k new) (nibble k old) * 16 ^ k

-- A word written under a nibble mask: mask bit 3 guards bits 15:12, bit 0 guards 3:0 ("Host bytes").
unfoldable pub merged : ℕ → ℕ → ℕ → ℕ
merged mask old new = chosen mask old new 3 + chosen mask old new 2 + chosen mask old new 1 + chosen mask old new 0

-- The shifter: the k low nibbles of the word before enter at the top ("The blitter", point 2).
unfoldable pub shifted : ℕ → ℕ → ℕ → ℕ
shifted k before s = before % 16 ^ k * 16 ^ (4 - k) + s / 16 ^ k

-- The result: (S and not ANDC) xor XOR ("The blitter", point 3).
unfoldable pub combined : ℕ → ℕ → ℕ → ℕ
combined s andc xor = bit_xor (bit_and s (65535 - andc)) xor

-- Whether the colour test finds nibble k of S equal to T: the upper nibble of T stands against bits 15:12 and 7:4,
-- the lower against 11:8 and 3:0; or the byte that holds the nibble against the whole of T ("The blitter", point 4).
unfoldable pub is_colour : Bool → ℕ → ℕ → ℕ → Bool
is_colour bytes t s k = cond bytes (eqb (s / 256 ^ (k / 2) % 256) t) (eqb (nibble k s) (nibble (k % 2) t))

-- The nibbles that the colour test lets through, as a mask.
unfoldable pub colour_mask : Bool → ℕ → ℕ → ℕ
colour_mask bytes t s = cond (is_colour bytes t s 3) 0 8 + cond (is_colour bytes t s 2) 0 4 + cond (is_colour bytes t s 1) 0 2 + cond (is_colour bytes t s 0) 0 1
