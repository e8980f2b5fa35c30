-- Each register stands at its word, and a write past the registers changes none.
use mathlib.Core.Path.{◌≡◌, refl, ◌∙◌}
use mathlib.Core.Bool.{true, false, cond, ◌||◌}
use mathlib.Core.List.{List, [], ◌∷◌}
use Prim.Native.Nat.{ℕ, ◌+◌, ◌≤◌, ◌<◌}
use native.Mathlib.Omega.{arith}
use borrow.Author.Tests.{ne_eqb, lt-ltb, ltb-true, leb-true}
use lib.Dec.{leb, ltb, eqb}
use lib.ListN.{length, set, get_or-eq_default}
use Rattle.xosera.specs.declared.BlitRegs.{BlitRegs}
use Rattle.std.specs.Prelude.{Option, Some, None}
use Rattle.xosera.specs.State.{State, Video, state_words, state_by, word_at, state_at}
use Rattle.xosera.specs.XrSpace as XrSpace
use Rattle.xosera.specs.XrSpace.{within, register_read, playfield_read, video_write, blit_write}
use Rattle.xosera.proofs.Tables.{firsts_same}
use Rattle.xosera.proofs.WordLaws.{put, ◌takes◌, stored-state}
use Rattle.xr_memory.proofs.Parts.{above-range}
use Rattle.xr_registers.specs.Places.{low_places, register_place, register_written}

-- Past the registers: each of them, and each range of them, ends below 0x4A.
module _ (a w : ℕ) (h : 0x4A ≤ a) where
  other : (at old : ℕ) → ltb at 0x4A ≡ true → XrSpace.put at a w old ≡ old
  unfolding XrSpace.put
  other at old l = rw (ne_eqb a at (λ e. absurd (omega (arith, ltb-true at 0x4A l))))

  beyond : (base n : ℕ) → leb (base + n) 0x4A ≡ true → within base n a ≡ false
  beyond base n l = above-range base n a (omega (arith, leb-true (base + n) 0x4A l))

  pub no-video : (v : Video) → video_write v a w ≡ v
  unfolding video_write
  no-video v = simp (other, beyond)

  pub no-blit : (r : BlitRegs) → blit_write r a w ≡ r
  unfolding blit_write
  no-blit r = simp other

  no_place : register_place a ≡ None
  unfolding register_place
  no_place = simp beyond (get_or-eq_default low_places None {n = a} (omega arith))

-- A register written is its word written, or nothing where no word stands for it.
abbrev placed : Option ℕ → ℕ → (ℕ → ℕ) → State
placed (Some i) w word = state_by (put i w word)
placed None w word = state_by word

written : (word : ℕ → ℕ) (w a : ℕ) → placed (register_place a) w word ≡ register_written (state_by word) a w
unfolding register_place within video_write blit_write XrSpace.put
written word w a =
    firsts_same (λ (k : ℕ). placed (register_place k) w word) (λ (k : ℕ). register_written (state_by word) k w)
    0x4A refl a (λ h. rw (no_place a w h, no-video a w h (state_by word).video, no-blit a w h (state_by word).blit))

pub stored-register : (ws : List ℕ) → length ws ≡ state_words → (a w i : ℕ) → Some i ≡ register_place a → i < state_words
    → state_at (set ws i w) ≡ register_written (state_at ws) a w
unfolding state_at
stored-register ws size a w i e h =
    stored-state ws size ((i takes w) ∷ []) (rw (lt-ltb i state_words h)) ∙ rw (← e) at (written (word_at ws) w a)

pub unstored-register : (ws : List ℕ) (a w : ℕ) → None ≡ register_place a → state_at ws ≡ register_written (state_at ws) a w
unfolding state_at
unstored-register ws a w e = rw (← e) at (written (word_at ws) w a)

-- A register that has a word reads as it, but for LINE_ADDR of the two playfields; one that has none reads 0, but for XR_SCANLINE.
abbrev read_by : Option ℕ → ℕ → (ℕ → ℕ) → ℕ
read_by (Some i) none word = word i
read_by None none word = none

-- In one equation, of any words, for all registers but those three.
pub read_at : (word : ℕ → ℕ) (a : ℕ) → a < 0x20 → (a ≡ 0x15 → ⊥) → (a ≡ 0x1D → ⊥) → (a ≡ 3 → ⊥)
    → read_by (register_place a) 0 word ≡ register_read (state_by word).video (state_by word).beam a
unfolding register_place within register_read playfield_read
read_at word a h n m l =
    rw (ne_eqb a 0x15 n, ne_eqb a 0x1D m, ne_eqb a 3 l) at
    (firsts_same
    (λ (k : ℕ). cond (eqb k 0x15 || eqb k 0x1D || eqb k 3) 0 (read_by (register_place k) 0 word))
    (λ (k : ℕ). cond (eqb k 0x15 || eqb k 0x1D || eqb k 3) 0 (register_read (state_by word).video (state_by word).beam k))
    0x20 refl a (λ o. absurd (omega arith)))

module _ (ws : List ℕ) (a : ℕ) where
  abbrev read : ℕ → ℕ
  read k = register_read (state_by (word_at ws)).video (state_by (word_at ws)).beam k

  pub read-stored : a < 0x20 → (a ≡ 0x15 → ⊥) → (a ≡ 0x1D → ⊥) → {i : ℕ} → Some i ≡ register_place a
      → word_at ws i ≡ register_read (state_at ws).video (state_at ws).beam a
  unfolding state_at register_place within register_read playfield_read
  read-stored h n m e =
      rw (ne_eqb a 0x15 n, ne_eqb a 0x1D m, ← e) at
      (firsts_same
      (λ (k : ℕ). cond (eqb k 0x15 || eqb k 0x1D) 0 (read_by (register_place k) (read k) (word_at ws)))
      (λ (k : ℕ). cond (eqb k 0x15 || eqb k 0x1D) 0 (read k))
      0x20 refl a (λ o. absurd (omega arith)))

  pub read-unstored : a < 0x20 → (a ≡ 3 → ⊥) → None ≡ register_place a → 0 ≡ register_read (state_at ws).video (state_at ws).beam a
  unfolding state_at register_place within register_read playfield_read
  read-unstored h l e =
      rw (ne_eqb a 3 l, ← e) at
      (firsts_same
      (λ (k : ℕ). cond (eqb k 3) 0 (read_by (register_place k) 0 (λ _. 0)))
      (λ (k : ℕ). cond (eqb k 3) 0 (read_by (register_place k) (read k) (λ _. 0)))
      0x20 refl a (λ o. absurd (omega arith)))

-- For a store, and a read of a register that has a word.
pub ruleset places = (stored-register, unstored-register, read-stored)
