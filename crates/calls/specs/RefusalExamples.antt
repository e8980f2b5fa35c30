-- Worked examples of refusals, of what the bench table does not tell apart.
use Rattle.std.specs.Prelude.{◌≡◌, true, false, List, [], ◌∷◌, ◌++◌, ℕ, replicate}
use Rattle.xosera.specs.Adapter.{Adapter}
use Rattle.xosera.specs.Beam.{rest}
use Rattle.xosera.specs.Blitter.{idle}
use Rattle.xosera.specs.Events.{Event, write, read, tick, beam, line, call, step, run}
use Rattle.xosera.specs.Ranges.{reset_state}
use Rattle.xosera.specs.Sessions.{set_word, bench, values_of, refusals_of, masks_of}
use Rattle.xosera.specs.BlitExamples.{two_blits}
use Rattle.calls.specs.Sequences.{after_all, all_answers}

-- An idle adapter with memories of any length and any interrupt status.
abbrev pub lent : ℕ → ℕ → ℕ → Adapter
lent vram xr status = record {
  side = record { host = reset_state.host; video = reset_state.video; blit = reset_state.blit; beam = rest; xr = replicate xr 0 };
  status = status;
  queued = 0;
  engine = idle;
  vram = replicate vram 0xFFFF;
}

-- One event of each kind, the accesses to register 16.
abbrev pub each_kind : List Event
each_kind = call (write 16 true 0) ∷ call (read 16 false) ∷ call tick ∷ call beam ∷ call line ∷ step ∷ run 1 ∷ []

pub record RefusalExamples : Type 0 where
  -- A full blitter refuses 0x40 to 0x49 and not 0x3F or 0x4A.
  pub full_registers :
      refusals_of (all_answers (after_all two_blits (set_word 4 0x3F)) (set_word 5 0 ++ set_word 5 0))
      ++ refusals_of (all_answers two_blits (set_word 4 0x49 ++ set_word 5 0 ++ set_word 4 0x4A ++ set_word 5 0))
      ≡ 0 ∷ 0 ∷ 0 ∷ 5 ∷ 0 ∷ 0 ∷ 0 ∷ 5 ∷ 0 ∷ 0 ∷ 0 ∷ 0 ∷ []
  -- The lowest number that applies: 1 before 2 before 3 before 4, and status 127 is in range.
  pub lowest_refusal :
      refusals_of (all_answers (lent 128 6655 128) each_kind) ++ refusals_of (all_answers (lent 256 6655 128) each_kind)
      ++ refusals_of (all_answers (lent 256 6656 128) each_kind) ++ refusals_of (all_answers (lent 256 6656 127) (each_kind ++ call (read 15 false) ∷ []))
      ≡ (1 ∷ 1 ∷ 3 ∷ 1 ∷ 3 ∷ 1 ∷ 1 ∷ []) ++ (2 ∷ 2 ∷ 3 ∷ 2 ∷ 3 ∷ 2 ∷ 2 ∷ []) ++ replicate 7 3 ++ (4 ∷ 4 ∷ 0 ∷ 0 ∷ 0 ∷ 0 ∷ 0 ∷ 0 ∷ [])
  -- Timer tick and line question take only the state.
  pub state_alone : refusals_of (all_answers (lent 128 6655 127) (call tick ∷ call line ∷ [])) ≡ 0 ∷ 0 ∷ []
  -- Bit 15 written to XM_INT_CTRL is refused and leaves the interrupt mask; bit 14 is part of it.
  pub reconfigure_refused :
      refusals_of (all_answers (bench []) (set_word 1 0x8F00 ++ set_word 1 0x4000))
      ++ values_of (all_answers (after_all (bench []) (set_word 1 0x8F00)) (call (read 1 false) ∷ []))
      ++ values_of (all_answers (after_all (bench []) (set_word 1 0x4000)) (call (read 1 false) ∷ [])) ≡ 0 ∷ 6 ∷ 0 ∷ 0 ∷ 0x00 ∷ 0x40 ∷ []
  -- A refused write, step or run wrote nothing.
  pub refused_masks :
      masks_of (all_answers (bench []) (call (write 26 true 0xFF) ∷ []))
      ++ masks_of (all_answers (lent 128 6656 0) (call (write 10 true 0xFF) ∷ step ∷ run 1 ∷ [])) ≡ 0 ∷ 0 ∷ 0 ∷ 0 ∷ []
