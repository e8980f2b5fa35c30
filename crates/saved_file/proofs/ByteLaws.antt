-- Words as bytes and back: lengths, each byte and each word by its place, and that both ways undo each other.
use mathlib.Core.Path.{◌≡◌, refl, sym, ap, ap₂, ◌∙◌}
use mathlib.Core.List.{List, [], ◌∷◌, ◌++◌}
use Prim.Native.Nat.{ℕ, zero, suc, ◌+◌, ◌*◌, ◌/◌, ◌<◌}
use native.Mathlib.Omega.{arith}
use lib.ListN.{length, take, drop}
use lib.Seq.{get_or-drop}
use Rattle.saved_file.specs.SavedFile.{bytes_of, words_of}
use Rattle.saved_file.specs.Claims.{AllBelow}

twice : (n : ℕ) → 2 * suc n ≡ suc (suc (2 * n))
twice n = omega arith

pub bytes-length : (ws : List ℕ) → length (bytes_of ws) ≡ 2 * length ws
unfolding bytes_of
bytes-length [] = refl
bytes-length (w ∷ ws) = ap (λ (n : ℕ). suc (suc n)) (bytes-length ws) ∙ sym (twice (length ws))

-- As many words as there are pairs of bytes.
pub words-half : (bs : List ℕ) → length (words_of bs) ≡ length bs / 2
unfolding words_of
words-half [] = refl
words-half (b ∷ []) = refl
words-half (h ∷ l ∷ bs) = let e = words-half bs in omega arith

pub words-length : (bs : List ℕ) (n : ℕ) → length bs ≡ 2 * n → length (words_of bs) ≡ n
words-length bs n h = let e = words-half bs in omega arith

-- There and back.
pub words-of-bytes : (ws : List ℕ) → words_of (bytes_of ws) ≡ ws
unfolding bytes_of words_of
words-of-bytes [] = refl
words-of-bytes (w ∷ ws) = ap₂ ◌∷◌ (omega arith) (words-of-bytes ws)

pub bytes-of-words : (bs : List ℕ) (n : ℕ) → length bs ≡ 2 * n → AllBelow 256 bs → bytes_of (words_of bs) ≡ bs
unfolding bytes_of words_of
bytes-of-words [] n h b = refl
bytes-of-words (x ∷ []) n h b = absurd (omega arith)
bytes-of-words (x ∷ y ∷ bs) zero h b = absurd (omega arith)
bytes-of-words (x ∷ y ∷ bs) (suc n) h b =
    ap₂ ◌∷◌ (omega (arith, b 1)) (ap₂ ◌∷◌ (omega (arith, b 1)) (bytes-of-words bs n (omega arith) (λ i. b (suc (suc i)))))

-- Parts of bytes and bytes one after another are bytes, and bytes make words of 16 bits.
pub drop-below : (n k : ℕ) (l : List ℕ) → AllBelow n l → AllBelow n (drop k l)
drop-below n k l b i = rw (get_or-drop k l i 0) (b (k + i))

pub take_below : (n k : ℕ) (l : List ℕ) → 0 < n → AllBelow n l → AllBelow n (take k l)
take_below n zero l p b i = p
take_below n (suc k) [] p b i = p
take_below n (suc k) (x ∷ l) p b zero = b 0
take_below n (suc k) (x ∷ l) p b (suc i) = take_below n k l p (λ j. b (suc j)) i

pub append-below : (n : ℕ) (l m : List ℕ) → AllBelow n l → AllBelow n m → AllBelow n (l ++ m)
append-below n [] m b c i = c i
append-below n (x ∷ l) m b c zero = b 0
append-below n (x ∷ l) m b c (suc i) = append-below n l m (λ j. b (suc j)) c i

pub words-16 : (bs : List ℕ) → AllBelow 256 bs → AllBelow 65536 (words_of bs)
unfolding words_of
words-16 [] b i = omega arith
words-16 (x ∷ []) b i = omega arith
words-16 (h ∷ l ∷ bs) b zero = omega (arith, b 0, b 1)
words-16 (h ∷ l ∷ bs) b (suc i) = words-16 bs (λ j. b (suc (suc j))) i
