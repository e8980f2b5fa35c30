-- Beam and copper at rest: the test says it, and the words of a file with rest behind them have it.
use mathlib.Core.Path.{◌≡◌, refl, sym, ap, ◌∙◌}
use mathlib.Core.Bool.{true, false, not}
use mathlib.Core.List.{List, ◌++◌}
use Prim.Native.Nat.{ℕ, zero, suc, ◌+◌}
use native.Mathlib.Omega.{arith}
use lib.ListN.{length, take}
use lib.Seq.{take_at, get_or-append-add}
use Rattle.xosera.specs.State.{Beam, state_words, word_at, state_at, reg_words, beam_words, register_words, laid_out}
use Rattle.xosera.specs.Adapter.{Adapter}
use Rattle.xosera.specs.Beam.{rest, at_rest}
use Rattle.xosera.proofs.Branches.{parts, not-passed}
use Rattle.xosera.proofs.WordLaws.{words_back}
use Rattle.saved_file.specs.SavedFile.{words_of, held_words}
use Rattle.saved_file.specs.SaveLoad.{not_at_rest}
use Rattle.saved_file.specs.Claims.{AllBelow, Resting}
use Rattle.saved_file.proofs.ByteLaws.{words-length, append-below, words-16}

pub at_rest_lem : (b : Beam) → at_rest b ≡ true → b ≡ rest
unfolding at_rest
at_rest_lem b h =
    let k = simp parts at h in
    λ i. record { line = k.0.0.0 i; position = k.0.0.1 i; running = k.0.1 i; word = k.1 i }

-- Refusal 10, by what the adapter is.
pub rest-passes : (a : Adapter) → Resting a → not_at_rest a ≡ false
unfolding not_at_rest at_rest
rest-passes a h = ap (λ (b : Beam). not (at_rest b)) h

pub off-rest-fails : (a : Adapter) → (Resting a → ⊥) → not_at_rest a ≡ true
unfolding not_at_rest
off-rest-fails a d = rw (not-passed (at_rest a.side.beam) (λ h. d (at_rest_lem a.side.beam h)))

-- The words of a state that a file has are its first 75.
pub register-words : (ws : List ℕ) → length (register_words (state_at ws)) ≡ 75
unfolding register_words reg_words state_at
register-words ws = refl

pub first-words : (ws : List ℕ) → length ws ≡ state_words → register_words (state_at ws) ≡ take 75 ws
unfolding laid_out
first-words ws size =
    sym (take_at (register_words (state_at ws)) (beam_words (state_at ws).beam) 75 (register-words ws)) ∙ ap (take 75) (words_back ws size)

-- With rest behind them they stand for a state at rest: for the one that they are of, where that is at rest.
rests-behind : (ws : List ℕ) → length ws ≡ 75 → (state_at (ws ++ beam_words rest)).beam ≡ rest
unfolding state_at beam_words
rests-behind ws size = λ i. record { line = zero-at 0 i; position = zero-at 1 i; running = zero-at 2 i; word = zero-at 3 i }
  where
    zero-at : (k : ℕ) → word_at (ws ++ beam_words rest) (75 + k) ≡ word_at (beam_words rest) k
    zero-at k = rw (← size) (get_or-append-add ws (beam_words rest) k 0)

pub body-rests : (body : List ℕ) → length body ≡ 150 → (state_at (held_words body)).beam ≡ rest
unfolding held_words
body-rests body size = rests-behind (words_of body) (words-length body 75 size)

rest-16 : AllBelow 65536 (beam_words rest)
unfolding beam_words
rest-16 zero = omega arith
rest-16 (suc zero) = omega arith
rest-16 (suc (suc zero)) = omega arith
rest-16 (suc (suc (suc zero))) = omega arith
rest-16 (suc (suc (suc (suc i)))) = omega arith

pub held-16 : (body : List ℕ) → AllBelow 256 body → AllBelow 65536 (held_words body)
unfolding held_words
held-16 body bytes = append-below 65536 (words_of body) (beam_words rest) (words-16 body bytes) rest-16

laid-state : (ws : List ℕ) → state_at (register_words (state_at ws) ++ beam_words (state_at ws).beam) ≡ state_at ws
unfolding register_words beam_words reg_words state_at
laid-state ws = refl

pub resting-state : (ws : List ℕ) → (state_at ws).beam ≡ rest → state_at (register_words (state_at ws) ++ beam_words rest) ≡ state_at ws
resting-state ws h = ap (λ (b : Beam). state_at (register_words (state_at ws) ++ beam_words b)) (sym h) ∙ laid-state ws
