-- What a write in the XR space comes to: in memory, at 0x03, at 0x49, at 0x01 and at any other register.
use Rattle.std.proofs.Common.{◌≡◌, ℕ, ◌<◌, ◌≤◌, List, [], ◌∷◌, refl, ap, ◌∙◌, arith, ne_eqb}
use lib.Bits.{bit_or}
use lib.ListN.{length, set}
use Rattle.xosera.specs.State.{State, state_words, word_at, state_at}
use Rattle.xosera.specs.Fields.{frame_ended}
use Rattle.xosera.specs.Memories.{stored}
use Rattle.xosera.specs.Adapter.{adapter, adapter_at}
use Rattle.xosera.specs.Blitter.{blit_started}
use Rattle.xosera.specs.Plan.{changed, perform}
use Rattle.xosera.specs.XrSpace.{within, xr_memory_write, beam_write, xr_write}
use Rattle.xosera.proofs.WordLaws.{◌takes◌, stored-adapter}
use Rattle.xr_memory.proofs.Parts.{below-range}
use Rattle.xr_registers.specs.Places.{register_written}
use Rattle.xr_registers.proofs.Registers.{no-video, no-blit}
use Rattle.xr_port.specs.Stops.{controlled}

-- A state with status bit 4 set.
abbrev raised : State → State
raised s = record {
  host = s.host;
  queued = s.queued;
  status = bit_or s.status frame_ended;
  engine = s.engine;
  video = s.video;
  blit = s.blit;
  beam = s.beam;
}

module _ (s : State) (v x : List ℕ) (a w : ℕ) where
  -- Past the registers only memory is written.
  pub memory-write : 0x4000 ≤ a → adapter s v (xr_memory_write x a w) ≡ perform (xr_write (adapter s v x).side a w) (adapter s v x)
  unfolding xr_write perform changed stored beam_write
  memory-write h =
      let far : 0x4A ≤ a = omega arith in
      rw (
        no-video a w far s.video,
        no-blit a w far s.blit,
        ne_eqb a 3 (λ e. absurd (omega arith)),
        ne_eqb a 0x49 (λ e. absurd (omega arith)),
        ne_eqb a 1 (λ e. absurd (omega arith)),
      )

  -- At 0x03 status bit 4 is set, and nothing is stored.
  pub scanline-write : (us : List ℕ) → length us ≡ state_words → a ≡ 3 → state_at us ≡ register_written s a w
      → adapter_at (set us 31 (bit_or (word_at us 31) frame_ended)) v x ≡ perform (xr_write (adapter s v x).side a w) (adapter s v x)
  unfolding state_at xr_write perform changed stored xr_memory_write beam_write within
  scanline-write us size e k =
      stored-adapter us size ((31 takes bit_or (word_at us 31) frame_ended) ∷ []) refl v x ∙ ap (λ (t : State). adapter (raised t) v x) k ∙ rw e

  -- At 0x49 a blit starts with the registers as they then stand.
  pub starting-write : (us : List ℕ) → a ≡ 0x49 → state_at us ≡ register_written s a w
      → blit_started (adapter_at us v x) ≡ perform (xr_write (adapter s v x).side a w) (adapter s v x)
  unfolding xr_write perform changed stored xr_memory_write beam_write within
  starting-write us e l = ap (λ (t : State). blit_started (adapter t v x)) l ∙ rw e

  -- At 0x01 the copper may be stopped.
  pub control-write : {t u : State} → a ≡ 1 → t ≡ register_written s a w → u ≡ controlled t w
      → adapter u v x ≡ perform (xr_write (adapter s v x).side a w) (adapter s v x)
  unfolding xr_write perform changed stored xr_memory_write beam_write within
  control-write e k l = ap (λ (t : State). adapter t v x) (l ∙ ap (λ (t : State). controlled t w) k) ∙ rw e

  -- Any other register is stored, or none.
  pub register-write : {t : State} → a < 0x4000 → (a ≡ 3 → ⊥) → (a ≡ 0x49 → ⊥) → (a ≡ 1 → ⊥) → t ≡ register_written s a w
      → adapter t v x ≡ perform (xr_write (adapter s v x).side a w) (adapter s v x)
  unfolding xr_write perform changed stored xr_memory_write beam_write
  register-write h three last one k =
      ap (λ (t : State). adapter t v x) k
      ∙ rw (
        ne_eqb a 3 three,
        ne_eqb a 0x49 last,
        ne_eqb a 1 one,
        below-range 0x4000 5120 a h,
        below-range 0x8000 512 a (omega arith),
        below-range 0xC000 1024 a (omega arith),
      )

-- For what the code does behind a store, or in place of one.
pub ruleset writes = (memory-write, scanline-write, control-write, register-write)
