-- A start and a blit's end, in the words of the state.
use mathlib.Core.Path.{◌≡◌, refl, sym, ap, ◌∙◌}
use mathlib.Core.Bool.{true, false}
use mathlib.Core.List.{List, [], ◌∷◌}
use Prim.Native.Nat.{ℕ}
use lib.Bits.{bit_or}
use lib.ListN.{length, set}
use Rattle.xosera.specs.declared.Engine.{Engine}
use Rattle.xosera.specs.State.{State, state_words, is_set, word_at, state_at}
use Rattle.xosera.specs.Fields.{blit_done}
use Rattle.xosera.specs.Adapter.{state_of, adapter, adapter_at}
use Rattle.xosera.specs.Blitter.{launched, started_engine, blit_started, succeeding, blit_ended}
use Rattle.xosera.proofs.Branches.{cond_yes, cond_no}
use Rattle.xosera.proofs.WordLaws.{◌takes◌, stored-state}
use Rattle.engine_words.specs.Held.{with_engine}

-- A state with another flag `queued`.
abbrev with_queued : State → ℕ → State
with_queued s q = record { host = s.host; queued = q; status = s.status; engine = s.engine; video = s.video; blit = s.blit; beam = s.beam }

module _ (ws : List ℕ) (size : length ws ≡ state_words) (v x : List ℕ) where
  queued-state : (q : ℕ) → state_at (set ws 30 q) ≡ with_queued (state_at ws) q
  unfolding state_at
  queued-state q = stored-state ws size ((30 takes q) ∷ []) refl

  -- A start on a running engine.
  pub start-queues : is_set (word_at ws 32) ≡ true → adapter_at (set ws 30 (word_at ws 32)) v x ≡ blit_started (adapter_at ws v x)
  unfolding state_at started_engine
  start-queues h =
      ap (λ (s : State). adapter s v x)
      (queued-state (word_at ws 32) ∙ ap (λ (e : Engine). with_engine (with_queued (state_at ws) (word_at ws 32)) e) (sym (cond_yes _ _ h)))

  -- A start on an idle one.
  pub start-launches : {e : Engine} {t : State} → is_set (word_at ws 32) ≡ false → e ≡ launched (state_at (set ws 30 (word_at ws 32))).blit
      → t ≡ with_engine (state_at (set ws 30 (word_at ws 32))) e → adapter t v x ≡ blit_started (adapter_at ws v x)
  unfolding state_at started_engine
  start-launches h l k =
      ap (λ (s : State). adapter s v x)
      (k ∙ ap (with_engine (state_at (set ws 30 (word_at ws 32)))) l
      ∙ ap (λ (s : State). with_engine s (launched s.blit)) (queued-state (word_at ws 32))
      ∙ ap (λ (e : Engine). with_engine (with_queued (state_at ws) (word_at ws 32)) e) (sym (cond_no _ _ h)))

  -- A blit's end.
  pub end-stored : {e : Engine} {t : State} → e ≡ succeeding (is_set (word_at ws 30)) (state_at ws).blit
      → t ≡ with_engine (state_at (set (set ws 31 (bit_or (word_at ws 31) blit_done)) 30 0)) e → adapter t v x ≡ blit_ended (adapter_at ws v x)
  unfolding state_at
  end-stored {e} l k =
      ap (λ (s : State). adapter s v x)
      (k ∙ ap (λ (s : State). with_engine s e) (stored-state ws size ((31 takes bit_or (word_at ws 31) blit_done) ∷ (30 takes 0) ∷ []) refl)
      ∙ ap (with_engine (state_of (blit_ended (adapter_at ws v x)))) l)
