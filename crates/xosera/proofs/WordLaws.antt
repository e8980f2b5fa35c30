-- The words of a state: what they stand for after stores, and that no two lists of words stand for the same state.
use mathlib.Core.Path.{◌≡◌, refl, sym, ap, ap₂, ◌∙◌}
use mathlib.Core.Bool.{Bool, true, cond, ◌&&◌, and-eq-true_iff}
use mathlib.Core.List.{List, [], ◌∷◌}
use Prim.Native.Nat.{ℕ, zero, suc, ◌+◌, ◌<◌}
use native.Mathlib.Omega.{arith}
use native.Mathlib.Decide.{ℕ_discrete}
use native.Mathlib.Nat.{add-zero}
use borrow.Author.Tests.{eq-eqb, ne_eqb, ltb-true}
use lib.Dec.{eqb, ltb}
use lib.ListN.{length, set, length-set}
use lib.Seq.{get_or-set_same, get_or-set_other}
use Rattle.xosera.specs.State.{State, state_words, words_from, state_by, word_at, state_at, reg_words, beam_words, register_words, laid_out}
use Rattle.xosera.specs.Adapter.{adapter, adapter_at}

-- Words read with another one at a place.
abbrev pub put : ℕ → ℕ → (ℕ → ℕ) → ℕ → ℕ
put at w word k = cond (eqb k at) w (word k)

-- A state's words, and what each of them is.
record Holds (ws : List ℕ) (word : ℕ → ℕ) : Type 0 where
  size : length ws ≡ state_words
  words : word_at ws ≡ word

put-at : (ws : List ℕ) (at w k : ℕ) → at < length ws → word_at (set ws at w) k ≡ put at w (word_at ws) k
put-at ws at w k h = go (ℕ_discrete k at)
  where
    go : Dec (k ≡ at) → word_at (set ws at w) k ≡ put at w (word_at ws) k
    go (yes e) = rw (eq-eqb k at e, e) (get_or-set_same ws at w 0 h)
    go (no d) = rw (ne_eqb k at d) (get_or-set_other ws at k w 0 d)

stored_at : {ws : List ℕ} {word : ℕ → ℕ} → Holds ws word → (at w : ℕ) → ltb at state_words ≡ true → Holds (set ws at w) (put at w word)
stored_at {ws} {word} h at w l = record {
  size = length-set ws at w ∙ h.size;
  words = λ i k. (put-at ws at w k (omega (arith, ltb-true at state_words l, h.size)) ∙ ap (λ (f : ℕ → ℕ). put at w f k) h.words) i;
}

-- Stores, one after another: a place and what its word takes.
infix 5 ◌takes◌
pub record Stored : Type 0 where
  pub place : ℕ
  pub value : ℕ

abbrev pub ◌takes◌ : ℕ → ℕ → Stored
at takes w = record { place = at; value = w }

abbrev pub set_all : List ℕ → List Stored → List ℕ
set_all ws [] = ws
set_all ws (p ∷ more) = set_all (set ws p.place p.value) more

abbrev pub put_all : List Stored → (ℕ → ℕ) → ℕ → ℕ
put_all [] word = word
put_all (p ∷ more) word = put_all more (put p.place p.value word)

abbrev pub all_placed : List Stored → Bool
all_placed [] = true
all_placed (p ∷ more) = ltb p.place state_words && all_placed more

hold-all : (ws : List ℕ) (word : ℕ → ℕ) (ps : List Stored) → Holds ws word → all_placed ps ≡ true → Holds (set_all ws ps) (put_all ps word)
hold-all ws word [] h l = h
hold-all ws word (p ∷ more) h l =
    let k = simp and-eq-true_iff at l in
    hold-all (set ws p.place p.value) (put p.place p.value word) more (stored_at h p.place p.value k.0) k.1

module _ (ws : List ℕ) (size : length ws ≡ state_words) (ps : List Stored) (placed : all_placed ps ≡ true) where
  -- The state that the words stand for after stores to them.
  pub stored-state : state_at (set_all ws ps) ≡ state_by (put_all ps (word_at ws))
  unfolding state_at
  stored-state = ap state_by (hold-all ws (word_at ws) ps (record { size = size; words = refl }) placed).words

  -- The adapter that they stand for, with both memories.
  pub stored-adapter : (v x : List ℕ) → adapter_at (set_all ws ps) v x ≡ adapter (state_by (put_all ps (word_at ws))) v x
  stored-adapter v x = ap (λ (s : State). adapter s v x) stored-state

-- A list is the list of its words.
spelled : (n : ℕ) (at : ℕ) (word : ℕ → ℕ) (ws : List ℕ) → length ws ≡ n → ((k : ℕ) → word (at + k) ≡ word_at ws k) → words_from n at word ≡ ws
spelled zero at word [] h e = refl
spelled zero at word (w ∷ ws) h e = absurd (omega arith)
spelled (suc n) at word [] h e = absurd (omega arith)
spelled (suc n) at word (w ∷ ws) h e =
    ap₂ ◌∷◌ (rw add-zero at (e 0)) (spelled n (suc at) word ws (omega arith) (λ k. ap word (omega arith) ∙ e (suc k)))

-- The words that a state is laid out in are those that it is read from.
pub words_back : (ws : List ℕ) → length ws ≡ state_words → laid_out (state_at ws) ≡ ws
unfolding laid_out register_words beam_words reg_words state_at
words_back ws h = spelled state_words 0 (word_at ws) ws h (λ k. ap (word_at ws) (omega arith))

-- Two different lists of words are two different states: equal states are equal memory.
pub same-state-same-words : (ws us : List ℕ) → length ws ≡ state_words → length us ≡ state_words → state_at ws ≡ state_at us → ws ≡ us
same-state-same-words ws us h k e = sym (words_back ws h) ∙ ap laid_out e ∙ words_back us k
