-- A saved adapter is read back from its file, and a file that is one is the file of what is read from it.
use mathlib.Core.Path.{◌≡◌, refl, sym, ap, ap₂, ◌∙◌}
use mathlib.Core.Bool.{Bool, true, false, cond, not, ◌&&◌, and-eq-true_iff, and-true}
use mathlib.Core.List.{List, [], ◌∷◌, ◌++◌, append-nil}
use Prim.Native.Nat.{ℕ, ◌+◌, ◌*◌, ◌≤◌}
use native.Mathlib.Omega.{arith}
use borrow.Author.Tests.{eqb-true}
use lib.Dec.{eqb}
use lib.ListN.{length, take, drop, length-append, length-drop, take-append-drop}
use lib.Seq.{take_at, drop_at, drop-drop, length-take-le}
use Rattle.xosera.specs.State.{state_words, state_at, beam_words, register_words}
use Rattle.xosera.specs.Memories.{is_vram_length, is_xr_length}
use Rattle.xosera.specs.Adapter.{adapter_at}
use Rattle.xosera.specs.Beam.{rest}
use Rattle.xosera.specs.Ranges.{in_range}
use Rattle.calls.specs.Refusals.{bad_vram, bad_xr, bad_state, Fit, lent_tests, first}
use Rattle.calls.proofs.RefusalLaws.{none-fit}
use Rattle.saved_file.specs.SavedFile.{bytes_of, words_of, entry, entries, contents, joined, file_of, saved, held_words, held, same_bytes, is_saved}
use Rattle.saved_file.specs.Claims.{AllBelow, Resting}
use Rattle.saved_file.proofs.ByteLaws.{bytes-length, words-length, words-of-bytes, bytes-of-words, drop-below, take_below}
use Rattle.saved_file.proofs.SameLaws.{same_refl, same-equal, same-append}
use Rattle.saved_file.proofs.RestLaws.{register-words, first-words, body-rests, resting-state}

-- The contents of the file of an adapter with n words of VRAM.
abbrev pub contents_for : ℕ → List ℕ
contents_for n = contents (150 ∷ 13312 ∷ 2 * n ∷ [])

pub contents-length : (n : ℕ) → length (contents_for n) ≡ 28
unfolding contents entries entry bytes_of
contents-length n = refl

-- The parts of a file.
module _ (c s x v : List ℕ) (p : length c ≡ 28) (q : length s ≡ 150) (r : length x ≡ 13312) where
  abbrev whole : List ℕ
  whole = c ++ (s ++ (x ++ v))

  behind-contents : drop 28 whole ≡ s ++ (x ++ v)
  behind-contents = drop_at c _ 28 p

  behind-state : drop 178 whole ≡ x ++ v
  behind-state = sym (drop-drop 150 28 whole) ∙ ap (drop 150) behind-contents ∙ drop_at s _ 150 q

  part-state : take 150 (drop 28 whole) ≡ s
  part-state = ap (take 150) behind-contents ∙ take_at s _ 150 q

  part-xr : take 13312 (drop 178 whole) ≡ x
  part-xr = ap (take 13312) behind-state ∙ take_at x _ 13312 r

  part-vram : drop 13490 whole ≡ v
  part-vram = sym (drop-drop 13312 178 whole) ∙ ap (drop 13312) behind-state ∙ drop_at x _ 13312 r

pub state-bytes : (ws : List ℕ) → length ws ≡ 75 → length (bytes_of ws) ≡ 150
state-bytes ws h = bytes-length ws ∙ ap (λ (n : ℕ). 2 * n) h

pub xr-bytes : (x : List ℕ) → length x ≡ 6656 → length (bytes_of x) ≡ 13312
xr-bytes x h = bytes-length x ∙ ap (λ (n : ℕ). 2 * n) h

-- The file of an adapter by its words.
module _ (ws v x : List ℕ) (xsize : length x ≡ 6656) where
  abbrev state : List ℕ
  state = bytes_of (register_words (state_at ws))

  state-size : length state ≡ 150
  state-size = state-bytes (register_words (state_at ws)) (register-words ws)

  pub saved-is : saved (adapter_at ws v x) ≡ contents_for (length v) ++ (state ++ (bytes_of x ++ bytes_of v))
  unfolding saved file_of joined
  saved-is =
      let sizes : List ℕ = length state ∷ length (bytes_of x) ∷ length (bytes_of v) ∷ [] in
      ap (λ (l : List ℕ). contents sizes ++ (state ++ (bytes_of x ++ l))) (append-nil (bytes_of v)) ∙ rw (state-size, xr-bytes x xsize, bytes-length v) refl

  pub saved-words : length ws ≡ state_words → saved (adapter_at ws v x) ≡ contents_for (length v) ++ (bytes_of (take 75 ws) ++ (bytes_of x ++ bytes_of v))
  saved-words size = saved-is ∙ ap (λ (us : List ℕ). contents_for (length v) ++ (bytes_of us ++ (bytes_of x ++ bytes_of v))) (first-words ws size)

  pub saved-length : length (saved (adapter_at ws v x)) ≡ 13490 + 2 * length v
  saved-length = ap length saved-is ∙ simp (length-append, contents-length, state-size, xr-bytes x xsize, bytes-length v) (omega arith)

  -- What was saved at rest is held.
  pub held-saved : Resting (adapter_at ws v x) → held (saved (adapter_at ws v x)) ≡ adapter_at ws v x
  unfolding held held_words
  held-saved rests = rw saved-is (go (contents_for (length v)) (contents-length (length v)))
    where
      go : (c : List ℕ) → length c ≡ 28 → held (c ++ (state ++ (bytes_of x ++ bytes_of v))) ≡ adapter_at ws v x
      go c p =
          let s = part-state c state (bytes_of x) (bytes_of v) p state-size (xr-bytes x xsize) in
          let y = part-xr c state (bytes_of x) (bytes_of v) p state-size (xr-bytes x xsize) in
          let w = part-vram c state (bytes_of x) (bytes_of v) p state-size (xr-bytes x xsize) in
          rw (s, y, w, words-of-bytes (register_words (state_at ws)), words-of-bytes x, words-of-bytes v, resting-state ws rests) refl

-- A file that is long enough, by its parts.
module _ (f : List ℕ) where
  abbrev state_bytes : List ℕ
  state_bytes = take 150 (drop 28 f)

  abbrev xr_bytes : List ℕ
  xr_bytes = take 13312 (drop 178 f)

  abbrev vram_bytes : List ℕ
  vram_bytes = drop 13490 f

  module _ (least : 13490 ≤ length f) where
    pub state-part : length state_bytes ≡ 150
    state-part = length-take-le 150 (drop 28 f) (omega (arith, length-drop 28 f))

    xr-part : length xr_bytes ≡ 13312
    xr-part = length-take-le 13312 (drop 178 f) (omega (arith, length-drop 178 f))

    state-words : length (words_of state_bytes) ≡ 75
    state-words = words-length state_bytes 75 state-part

    pub held-words : length (held_words state_bytes) ≡ state_words
    unfolding held_words beam_words
    held-words = length-append (words_of state_bytes) (beam_words rest) ∙ ap (λ (n : ℕ). n + 4) state-words

    -- The bytes of the state are those of the words held, but for rest.
    held_bytes : bytes_of (take 75 (held_words state_bytes)) ≡ bytes_of (words_of state_bytes)
    unfolding held_words
    held_bytes = ap bytes_of (take_at (words_of state_bytes) (beam_words rest) 75 state-words)

    pub held-rests : Resting (held f)
    unfolding held
    held-rests = body-rests state_bytes state-part

    pub held-xr : length (words_of xr_bytes) ≡ 6656
    held-xr = words-length xr_bytes 6656 xr-part

  parts-joined : state_bytes ++ (xr_bytes ++ vram_bytes) ≡ drop 28 f
  parts-joined =
      ap (λ (r : List ℕ). state_bytes ++ r)
      (ap (λ (r : List ℕ). xr_bytes ++ r) (sym (drop-drop 13312 178 f)) ∙ take-append-drop 13312 (drop 178 f) ∙ sym (drop-drop 150 28 f))
      ∙ take-append-drop 150 (drop 28 f)

-- With n words of VRAM.
module _ (f : List ℕ) (n : ℕ) (long : length f ≡ 13490 + 2 * n) where
  enough : 13490 ≤ length f
  enough = omega (arith, long)

  vram-part : length (vram_bytes f) ≡ 2 * n
  vram-part = omega (arith, length-drop 13490 f)

  pub held-vram : length (words_of (vram_bytes f)) ≡ n
  held-vram = words-length (vram_bytes f) n vram-part

  -- The file of what it holds: the contents that belong to its length, and the same bodies.
  module _ (bytes : AllBelow 256 f) where
    pub saved-held : saved (held f) ≡ contents_for n ++ drop 28 f
    unfolding held
    saved-held =
        saved-words (held_words (state_bytes f)) (words_of (vram_bytes f)) (words_of (xr_bytes f)) (held-xr f enough) (held-words f enough)
        ∙ rw (
          held-vram,
          held_bytes f enough,
          bytes-of-words (state_bytes f) 75 (state-part f enough) (take_below 256 150 (drop 28 f) (omega arith) (drop-below 256 28 f bytes)),
          bytes-of-words (xr_bytes f) 6656 (xr-part f enough) (take_below 256 13312 (drop 178 f) (omega arith) (drop-below 256 178 f bytes)),
          bytes-of-words (vram_bytes f) n vram-part (drop-below 256 13490 f bytes),
          parts-joined f,
        ) refl

    -- Whether it is one: its state and its contents decide.
    fit-test : is_vram_length n ≡ true → eqb (first (lent_tests (held f) [])) 0 ≡ in_range (state_at (held_words (state_bytes f)))
    unfolding held first bad_vram bad_xr bad_state is_xr_length
    fit-test legal = rw (held-vram, legal, held-xr f enough) (go (in_range (state_at (held_words (state_bytes f)))))
      where
        go : (b : Bool) → eqb (cond (not b) 3 0) 0 ≡ b
        go true = refl
        go false = refl

    bytes-test : same_bytes (saved (held f)) f ≡ same_bytes (contents_for n) (take 28 f)
    bytes-test =
        ap₂ same_bytes saved-held (sym (take-append-drop 28 f))
        ∙ same-append (contents_for n) (drop 28 f) (take 28 f) (drop 28 f) (contents-length n ∙ sym (length-take-le 28 f (omega arith)))
        ∙ rw (same_refl (drop 28 f)) (and-true (same_bytes (contents_for n) (take 28 f)))

    pub saved-test : is_vram_length n ≡ true → is_saved f ≡ (same_bytes (contents_for n) (take 28 f) && in_range (state_at (held_words (state_bytes f))))
    unfolding is_saved
    saved-test legal = ap₂ ◌&&◌ bytes-test (fit-test legal)

-- What a saved adapter is: the file of what it holds, which is fit and at rest, and as long as it should be.
pub record IsSaved (f : List ℕ) : Type 0 where
  pub fit : Fit (held f)
  pub rests : Resting (held f)
  pub same : saved (held f) ≡ f
  pub size : length f ≡ 13490 + 2 * length (held f).vram

pub saved-facts : (f : List ℕ) → is_saved f ≡ true → IsSaved f
unfolding is_saved held
saved-facts f h =
    let k = simp and-eq-true_iff at h in
    let same = same-equal (saved (held f)) f k.0 in
    let fit = none-fit (held f) [] (eqb-true (first (lent_tests (held f) [])) 0 k.1) in
    let size = ap length (sym same) ∙ saved-length (held_words (state_bytes f)) (words_of (vram_bytes f)) (words_of (xr_bytes f)) fit.xr in
    record { fit = fit; rests = held-rests f (omega (arith, size)); same = same; size = size }
