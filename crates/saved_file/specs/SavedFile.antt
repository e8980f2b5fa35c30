-- A saved adapter as a file of bytes (document 02, requests 1 and 3). A file is 28 bytes of contents and the bodies of three
-- sections; docs/SAVED.md has its places in a table.
use Rattle.std.specs.Prelude.{Bool, true, false, ◌&&◌, List, [], ◌∷◌, ◌++◌, map, ℕ, suc, ◌+◌, ◌*◌, ◌/◌, ◌%◌, eqb, length, take, drop}
use Rattle.xosera.specs.State.{beam_words, register_words}
use Rattle.xosera.specs.Adapter.{Adapter, adapter_at, state_of}
use Rattle.xosera.specs.Beam.{rest}
use Rattle.calls.specs.Refusals.{lent_tests, first}

-- "All numbers have the high byte first": words as bytes.
unfoldable pub bytes_of : List ℕ → List ℕ
bytes_of [] = []
bytes_of (w ∷ ws) = w / 256 ∷ w % 256 ∷ bytes_of ws

-- "A kind byte, a four-byte start from the file's first byte and a four-byte length in bytes". Four bytes are two words.
unfoldable pub entry : ℕ → ℕ → ℕ → List ℕ
entry kind start size = kind ∷ bytes_of (start / 65536 ∷ start % 65536 ∷ size / 65536 ∷ size % 65536 ∷ [])

-- The entries of sections by their lengths, from a kind and a start on: kinds count up, and bodies "follow without gaps".
unfoldable pub entries : ℕ → ℕ → List ℕ → List ℕ
entries kind start [] = []
entries kind start (size ∷ more) = entry kind start size ++ entries (suc kind) (start + size) more

-- "One byte for the number of sections", then for each its entry of nine bytes; the first body stands behind them.
unfoldable pub contents : List ℕ → List ℕ
contents sizes = length sizes ∷ entries 1 (1 + 9 * length sizes) sizes

-- Bodies one after another.
unfoldable pub joined : List (List ℕ) → List ℕ
joined [] = []
joined (body ∷ more) = body ++ joined more

-- A file: contents, then bodies.
unfoldable pub file_of : List (List ℕ) → List ℕ
file_of bodies = contents (map length bodies) ++ joined bodies

-- The file of an adapter: "kind 1 the state, in an order fixed in docs/; 2 XR memory; 3 VRAM". Beam and copper are not in it: only
-- an adapter that has them at rest is saved (request 3).
unfoldable pub saved : Adapter → List ℕ
saved a = file_of (bytes_of (register_words (state_of a)) ∷ bytes_of a.side.xr ∷ bytes_of a.vram ∷ [])

-- Bytes as words; a last byte by itself is left out.
unfoldable pub words_of : List ℕ → List ℕ
words_of [] = []
words_of (b ∷ []) = []
words_of (h ∷ l ∷ more) = (h * 256 + l) ∷ words_of more

-- The words of a state by the body of its section: behind those in the file, beam and copper at rest "after … a load" (request 3).
unfoldable pub held_words : List ℕ → List ℕ
held_words body = words_of body ++ beam_words rest

-- The adapter that stands in any bytes where that of a saved adapter does: the state at byte 28, 150 bytes long, XR memory at 178,
-- 13,312 bytes long, and VRAM from byte 13,490 on.
unfoldable pub held : List ℕ → Adapter
held file = adapter_at (held_words (take 150 (drop 28 file))) (words_of (drop 13490 file)) (words_of (take 13312 (drop 178 file)))

-- Equal byte for byte.
unfoldable pub same_bytes : List ℕ → List ℕ → Bool
same_bytes [] [] = true
same_bytes [] (c ∷ cs) = false
same_bytes (b ∷ bs) [] = false
same_bytes (b ∷ bs) (c ∷ cs) = eqb b c && same_bytes bs cs

-- A saved adapter: the adapter that stands in these bytes has them as its file, and none of 1 to 3 applies to that adapter ("one
-- adapter has one file"; "any other file is refused").
unfoldable pub is_saved : List ℕ → Bool
is_saved file = same_bytes (saved (held file)) file && eqb (first (lent_tests (held file) [])) 0
