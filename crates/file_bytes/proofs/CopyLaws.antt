-- Bytes from words and words from bytes, one word more at a time.
use mathlib.Core.Path.{◌≡◌, refl, ap}
use mathlib.Core.List.{List, [], ◌∷◌, ◌++◌}
use Prim.Native.Nat.{ℕ, zero, suc, ◌+◌, ◌*◌, ◌/◌, ◌%◌, ◌^◌, ◌≤◌, ◌<◌}
use native.Mathlib.Omega.{arith}
use borrow.Rule.Slice.PartMut.{put_mid}
use lib.ListN.{length, take, get_or}
use mir.Syntax.{w32}
use Rattle.std.specs.Int.{to_be_bytes}
use Rattle.std.specs.Simd.{first_chunks}
use Rattle.std.proofs.lemmas.Grind.{common_steps}
use Rattle.std.proofs.lemmas.List.{take_more}
use Rattle.std.proofs.lemmas.Slice.{take-put_mid}
use Rattle.saved_file.specs.SavedFile.{bytes_of, words_of}
use Rattle.saved_file.proofs.ByteLaws.{words-half}

bytes-append : (ws vs : List ℕ) → bytes_of (ws ++ vs) ≡ bytes_of ws ++ bytes_of vs
unfolding bytes_of
bytes-append [] vs = refl
bytes-append (w ∷ ws) vs = ap (λ (bs : List ℕ). w / 256 ∷ w % 256 ∷ bs) (bytes-append ws vs)

-- The two bytes of a word, put behind those of the words before it.
pub put_next : (part ws pair : List ℕ) (i k : ℕ) → take (2 * i) part ≡ bytes_of (take i ws) → 2 * i ≤ length part → i < length ws
    → pair ≡ get_or ws i 0 / 256 % 256 ∷ get_or ws i 0 % 256 ∷ [] → get_or ws i 0 < 65536
    → take (2 * (i + 1)) (put_mid (2 * i) k part pair) ≡ bytes_of (take (i + 1) ws)
unfolding bytes_of
put_next part ws pair i k before room l e fits =
    let high : get_or ws i 0 / 256 % 256 ≡ get_or ws i 0 / 256 = omega arith in
    let two : 2 * (i + 1) ≡ 2 * i + length pair = rw e (omega arith) in
    rw (take-put_mid (2 * i) k part pair (2 * (i + 1)) two room, take_more ws i 0 l, bytes-append, before, e, high) refl

-- A word by its pair of bytes.
pub word_of_pair : (n : ℕ) (bs : List ℕ) (i : ℕ) → length bs ≡ 2 * n → i < n
    → get_or (get_or (first_chunks 2 n bs) i []) 0 0 * 256 + get_or (get_or (first_chunks 2 n bs) i []) 1 0 ≡ get_or (words_of bs) i 0
unfolding words_of
word_of_pair zero bs i h l = absurd (omega arith)
word_of_pair (suc n) [] i h l = absurd (omega arith)
word_of_pair (suc n) (b ∷ []) i h l = absurd (omega arith)
word_of_pair (suc n) (h ∷ l ∷ bs) zero e k = refl
word_of_pair (suc n) (h ∷ l ∷ bs) (suc i) e k = word_of_pair n bs i (omega arith) (omega arith)

-- The bytes of a number of 32 bits are those of its two words.
pub four_bytes : (n : ℕ) → n < 2 ^ 32 → to_be_bytes w32 n ≡ bytes_of (n / 65536 ∷ n % 65536 ∷ [])
unfolding bytes_of
four_bytes n h =
    let top : n / 16777216 % 256 ≡ n / 65536 / 256 = omega arith in
    let second : n / 65536 % 256 ≡ n / 65536 % 256 = refl in
    let third : n / 256 % 256 ≡ n % 65536 / 256 = omega arith in
    let last : n % 256 ≡ n % 65536 % 256 = omega arith in
    rw (top, third, last) refl

pub ruleset words_read = (common_steps, word_of_pair, words-half)
