-- The sixteen latches are the first sixteen words, each at its register's number.
use mathlib.Core.Path.{◌≡◌, refl, ap, ◌∙◌}
use mathlib.Core.Bool.{false}
use mathlib.Core.List.{List, [], ◌∷◌}
use Prim.Native.Nat.{ℕ, ◌+◌, ◌%◌, ◌<◌}
use native.Mathlib.Omega.{arith}
use native.Mathlib.Nat.{zero-add}
use borrow.Author.Tests.{lt-ltb}
use denote.Enum.Declared.{tag_of}
use lib.ListN.{length, get_or, set}
use Rattle.xosera.specs.contracts.MainRegister.{the_type}
use Rattle.xosera.specs.declared.MainRegister.{MainRegister}
use Rattle.xosera.specs.Told.{main_number}
use Rattle.xosera.specs.State.{State, state_words, words_from, state_by, word_at, state_at}
use Rattle.xosera.specs.Memories.{stored}
use Rattle.xosera.specs.Adapter.{adapter, adapter_at, with_latches}
use Rattle.xosera.specs.Plan.{changed, perform}
use Rattle.xosera.specs.HostBytes.{latched, write_byte}
use Rattle.xosera.proofs.MainRegisters.{main-below, main-tag}
use Rattle.xosera.proofs.Tables.{firsts_same}
use Rattle.xosera.proofs.WordLaws.{put, ◌takes◌, stored-state}

-- Where the code finds a register's latch.
abbrev place : MainRegister → ℕ
place r = 0 + tag_of the_type r

placed : (r : MainRegister) → place r ≡ main_number r
placed r = zero-add _ ∙ main-tag r

latch-word : (word : ℕ → ℕ) (r : ℕ) → r < 16 → word r ≡ get_or (words_from 16 0 word) r 0
latch-word word r h = firsts_same word (λ (k : ℕ). get_or (words_from 16 0 word) k 0) 16 refl r (λ l. absurd (omega arith))

pub latch-at : (ws : List ℕ) (r : MainRegister) → word_at ws (place r) ≡ get_or (state_at ws).host.latches (main_number r) 0
unfolding state_at
latch-at ws r = ap (word_at ws) (placed r) ∙ latch-word (word_at ws) (main_number r) (main-below r)

-- A state with another byte in a latch.
abbrev with_latch : State → ℕ → ℕ → State
with_latch s r b = record {
  host = with_latches s.host (set s.host.latches r b);
  queued = s.queued;
  status = s.status;
  engine = s.engine;
  video = s.video;
  blit = s.blit;
  beam = s.beam;
}

latch-put : (word : ℕ → ℕ) (b r : ℕ) → r < 16 → state_by (put r b word) ≡ with_latch (state_by word) r b
latch-put word b r h =
    firsts_same (λ (k : ℕ). state_by (put k b word)) (λ (k : ℕ). with_latch (state_by word) k b) 16 refl r (λ l. absurd (omega arith))

module _ (ws : List ℕ) (size : length ws ≡ state_words) (r : MainRegister) (b : ℕ) (byte : b < 256) where
  filled : state_at (set ws (place r) b) ≡ with_latch (state_at ws) (main_number r) (b % 256)
  unfolding state_at
  filled =
      let small : b % 256 ≡ b = omega arith in
      let fits = main-below r in
      rw (placed r, small)
      (stored-state ws size ((main_number r takes b) ∷ []) (rw (lt-ltb (main_number r) state_words (omega arith))) ∙ latch-put (word_at ws) b (main_number r) fits)

  pub latch-filled : (v x : List ℕ)
      → adapter_at (set ws (place r) b) v x ≡ perform (write_byte (adapter_at ws v x).side (main_number r) false b) (adapter_at ws v x)
  unfolding perform changed stored write_byte latched
  latch-filled v x = ap (λ (s : State). adapter s v x) filled

pub ruleset latches = (latch-at, latch-filled)
