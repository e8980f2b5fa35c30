-- Worked examples of the beam and the copper (document 02, request 3).
use Rattle.std.specs.Prelude.{◌≡◌, Bool, true, false, List, [], ◌∷◌, ◌++◌, map, ℕ, ◌-◌, length, get_or, replicate}
use Rattle.xosera.specs.State.{Beam, is_set, beam_words}
use Rattle.xosera.specs.Fields.{opcode}
use Rattle.xosera.specs.Beam.{frame}
use Rattle.xosera.specs.Adapter.{Adapter, state_of}
use Rattle.xosera.specs.Plan.{Act, perform}
use Rattle.xosera.specs.Copper.{position_reached, pass, instructions}
use Rattle.xosera.specs.Events.{beam, call}
use Rattle.xosera.specs.Ranges.{in_range, reset_state}
use Rattle.xosera.specs.Acts.{done, all_done, all_given}
use Rattle.xosera.specs.Sessions.{set_word, set_xr, read_word, values_of}

abbrev pub beam_at : ℕ → ℕ → ℕ → ℕ → Beam
beam_at l p running word = record { line = l; position = p; running = running; word = word }

-- An adapter with a beam and a copper anywhere, XR_COPP_CTRL and XR memory; status bit 6 is set.
abbrev pub scene : Beam → ℕ → List ℕ → Adapter
scene b ctrl xr = record {
  side = record {
    host = reset_state.host;
    video = record { vidctrl = 0; coppctrl = ctrl; audctrl = 0; vidleft = 0; vidright = 640; pa = replicate 7 0; pb = replicate 7 0 };
    blit = reset_state.blit;
    beam = b;
    xr = xr;
  };
  status = 0x40;
  queued = 0;
  engine = reset_state.engine;
  vram = replicate 256 0xFFFF;
}

-- XR memory that is all 0, and so a program of WAITs for line 0, pixel 0; and XR memory with a program.
abbrev pub cleared : List ℕ
cleared = replicate 6656 0

abbrev pub holding : List ℕ → List ℕ
holding program = replicate 5632 0 ++ program ++ replicate (1024 - length program) 0

-- Beam, copper and status of an adapter, and those after one beam step.
abbrev pub looked : Adapter → List ℕ
looked a = beam_words a.side.beam ++ a.status ∷ []

abbrev pub beam_seen : Beam → ℕ → List ℕ → List ℕ
beam_seen b ctrl xr = looked (done (scene b ctrl xr) (call beam))

-- What an instruction by its two words asks of an adapter, and the adapter then.
abbrev pub asked : Adapter → ℕ → ℕ → Act
asked a first second = get_or instructions (opcode first) pass (is_set a.queued) a.side first second

abbrev pub instructed : ℕ → ℕ → Adapter → Adapter
instructed first second a = perform (asked a first second) a

-- With the copper at word 0 on line 10, position 165, or at any word.
abbrev pub running : ℕ → Adapter
running word = scene (beam_at 10 165 1 word) 0x8000 cleared

abbrev pub acted : ℕ → ℕ → Adapter
acted first second = instructed first second (running 0)

-- Whether the position of a WAIT with these two words is reached by a beam on a line at a position.
abbrev pub reached_at : ℕ → ℕ → ℕ → ℕ → Bool
reached_at first second l p = position_reached false frame (beam_at l p 1 0) first second

-- A WAIT for line 10, pixel 5, which is position 165: before it on its line, there, in the blanking of that line, in that of a later
-- line, and far behind on an earlier line.
abbrev pub reached_for : ℕ → ℕ → List Bool
reached_for first second =
    reached_at first second 10 164 ∷ reached_at first second 10 165 ∷ reached_at first second 10 0 ∷ reached_at first second 11 0
    ∷ reached_at first second 9 301 ∷ []

-- The second word of an instruction at 1,023, a MOVER to 0x00, is word 0, and the next instruction is at 1.
abbrev pub at_program_end : Adapter
at_program_end = done (scene (beam_at 2 0 1 1023) 0x8000 (holding (0x1234 ∷ replicate 1022 0 ++ 0x6000 ∷ []))) (call beam)

-- MOVER to 0x40 is stored, to 0x49 starts a blit, then queues one; on a full blitter both are dropped, and one to 0x00 is not.
abbrev pub started : Adapter
started = instructed 0x6049 4 (acted 0x6040 3)

abbrev pub full : Adapter
full = instructed 0x6049 5 started

abbrev pub blitters : Adapter → List ℕ
blitters a = a.engine.running ∷ a.engine.regs.words ∷ a.queued ∷ a.side.blit.words ∷ a.side.blit.ctrl ∷ a.side.video.vidctrl ∷ []

-- Whether a state with this beam and XR_COPP_CTRL is in its ranges.
abbrev pub ranged : Beam → ℕ → Bool
ranged b ctrl = in_range (state_of (scene b ctrl cleared))

pub record BeamExamples : Type 0 where
  -- The beam moves by one; line 480 sets bit 4 at its first position, also where the copper runs, and leaves the other bits.
  pub beam_moves :
      beam_seen (beam_at 0 0 0 0) 0 cleared ++ beam_seen (beam_at 0 799 0 0) 0 cleared ++ beam_seen (beam_at 524 799 0 0) 0 cleared
      ++ beam_seen (beam_at 479 799 0 0) 0 cleared ++ beam_seen (beam_at 479 799 1 0) 0x8000 cleared
      ++ beam_seen (beam_at 480 0 0 0) 0 cleared ++ beam_seen (beam_at 480 799 0 0) 0 cleared
      ≡ (0 ∷ 1 ∷ 0 ∷ 0 ∷ 0x40 ∷ []) ++ (1 ∷ 0 ∷ 0 ∷ 0 ∷ 0x40 ∷ []) ++ (0 ∷ 0 ∷ 0 ∷ 0 ∷ 0x40 ∷ [])
      ++ (480 ∷ 0 ∷ 0 ∷ 0 ∷ 0x50 ∷ []) ++ (480 ∷ 0 ∷ 1 ∷ 2 ∷ 0x50 ∷ []) ++ (480 ∷ 1 ∷ 0 ∷ 0 ∷ 0x40 ∷ []) ++ (481 ∷ 0 ∷ 0 ∷ 0 ∷ 0x40 ∷ [])
  -- Line 0 sets an enabled copper running at word 0, also one that runs, and it does an instruction in the same step: WAIT stays, 111
  -- is passed over. Not with bit 15 clear, nor at another line or position; a running one goes on there.
  pub copper_starts :
      beam_seen (beam_at 524 799 0 0) 0x8000 cleared ++ beam_seen (beam_at 524 799 1 10) 0x8000 (holding (0xE000 ∷ []))
      ++ beam_seen (beam_at 524 799 0 0) 0x7FFF cleared ++ beam_seen (beam_at 523 799 0 0) 0x8000 cleared ++ beam_seen (beam_at 0 0 0 0) 0x8000 cleared
      ++ beam_seen (beam_at 479 799 0 0) 0x8000 cleared ++ beam_seen (beam_at 2 799 1 10) 0x8000 cleared
      ≡ (0 ∷ 0 ∷ 1 ∷ 0 ∷ 0x40 ∷ []) ++ (0 ∷ 0 ∷ 1 ∷ 2 ∷ 0x40 ∷ []) ++ (0 ∷ 0 ∷ 0 ∷ 0 ∷ 0x40 ∷ [])
      ++ (524 ∷ 0 ∷ 0 ∷ 0 ∷ 0x40 ∷ []) ++ (0 ∷ 1 ∷ 0 ∷ 0 ∷ 0x40 ∷ []) ++ (480 ∷ 0 ∷ 0 ∷ 0 ∷ 0x50 ∷ []) ++ (3 ∷ 0 ∷ 1 ∷ 12 ∷ 0x40 ∷ [])
  -- Bits 12:11 of the first word and 15 and 3:2 of the second are without effect.
  pub positions :
      reached_for 0x000A 0x0050 ++ reached_for 0x180A 0x805C ≡ (false ∷ true ∷ false ∷ true ∷ false ∷ []) ++ (false ∷ true ∷ false ∷ true ∷ false ∷ [])
  -- The line ignored, the pixel ignored, both.
  pub axes_ignored :
      reached_for 0x000A 0x0051 ++ reached_for 0x000A 0x0052 ++ reached_for 0x000A 0x0053
      ≡ (false ∷ true ∷ false ∷ false ∷ true ∷ []) ++ (true ∷ true ∷ true ∷ true ∷ false ∷ []) ++ replicate 5 false
  -- Y and X have eleven bits: line 1,024, line 512 and pixel 1,024, which are never reached, and pixel 639, the last.
  pub far_positions :
      reached_at 0x0400 0x0002 2 0 ∷ reached_at 0x0200 0x0002 2 0 ∷ reached_at 0x0000 0x4001 2 301 ∷ reached_at 0x0000 0x27F1 2 798
      ∷ reached_at 0x0000 0x27F1 2 799 ∷ [] ≡ false ∷ false ∷ false ∷ false ∷ true ∷ []
  -- Left blanking has reached no X, not even 0, and lines from 480 on count their pixels alike: pixel 0 of line 480, and of any.
  pub blank_positions :
      reached_at 0x01E0 0x0000 480 1 ∷ reached_at 0x01E0 0x0000 480 159 ∷ reached_at 0x01E0 0x0000 480 160 ∷ reached_at 0x01E0 0x0000 481 0
      ∷ reached_at 0x0000 0x0001 500 159 ∷ reached_at 0x0000 0x0001 500 160 ∷ [] ≡ false ∷ false ∷ true ∷ true ∷ false ∷ true ∷ []
  -- WAIT for pixels 6 and 5, and with both axes ignored; SKIP alike, also from word 1,022; JMP, its address modulo 1,024; 111.
  pub words_after :
      map (λ (a : Adapter). a.side.beam.word)
      (acted 0x000A 0x0060 ∷ acted 0x000A 0x0050 ∷ acted 0x000A 0x0053 ∷ acted 0x200A 0x0060 ∷ acted 0x200A 0x0050 ∷ acted 0x200A 0x0053
      ∷ instructed 0x200A 0x0053 (running 1022) ∷ acted 0x4005 0xFFFF ∷ acted 0x5FFF 0 ∷ acted 0xFFFF 0xFFFF ∷ [])
      ≡ 0 ∷ 2 ∷ 0 ∷ 2 ∷ 4 ∷ 4 ∷ 2 ∷ 5 ∷ 1023 ∷ 2 ∷ []
  pub program_wraps : at_program_end.side.video.vidctrl ∷ at_program_end.side.beam.word ∷ [] ≡ 0x1234 ∷ 1 ∷ []
  -- MOVER, its flags ignored, its address of eight bits; the copper goes on, and the host's write address stays.
  pub movers :
      (acted 0x6000 0x1234).side.video.vidctrl ∷ (acted 0x7F02 0x5678).side.video.audctrl ∷ (acted 0x6082 0x5678).side.video.audctrl
      ∷ (acted 0x6000 0x1234).side.beam.word ∷ (acted 0x6000 0x1234).side.host.xr.wrxaddr.0 ∷ [] ≡ 0x1234 ∷ 0x5678 ∷ 0 ∷ 2 ∷ 0 ∷ []
  -- MOVEF, MOVEP and MOVEC at their last places.
  pub moves :
      get_or (acted 0x93FF 1).side.xr 5119 0 ∷ get_or (acted 0xBFFF 2).side.xr 5631 0 ∷ get_or (acted 0xDBFF 3).side.xr 6655 0 ∷ []
      ≡ 1 ∷ 2 ∷ 3 ∷ []
  -- Moves beyond a memory are dropped, and the copper goes on: MOVEF to 5,120 leaves the first colour word and both ends of tile
  -- memory, MOVEC to 1,024 the program's first word.
  pub moves_dropped :
      get_or (acted 0x9400 4).side.xr 5120 0 ∷ get_or (acted 0x9400 4).side.xr 0 0 ∷ get_or (acted 0x9400 4).side.xr 5119 0
      ∷ get_or (acted 0xC400 5).side.xr 5632 0 ∷ (acted 0xC400 5).side.beam.word ∷ [] ≡ 0 ∷ 0 ∷ 0 ∷ 0 ∷ 2 ∷ []
  -- MOVER to 0x03 sets bit 4; to 0x01 with bit 15 clear is stored and stops the copper at word 0, with bit 15 set it goes on.
  pub mover_acts :
      looked (acted 0x6003 0) ++ looked (acted 0x6001 0x7FFF) ++ looked (acted 0x6001 0xFFFF) ++ (acted 0x6001 0x7FFF).side.video.coppctrl ∷ []
      ≡ (10 ∷ 165 ∷ 1 ∷ 2 ∷ 0x50 ∷ []) ++ (10 ∷ 165 ∷ 0 ∷ 0 ∷ 0x40 ∷ []) ++ (10 ∷ 165 ∷ 1 ∷ 2 ∷ 0x40 ∷ []) ++ 0x7FFF ∷ []
  pub mover_starts :
      blitters started ++ blitters full ++ blitters (instructed 0x6000 8 (instructed 0x6040 7 (instructed 0x6049 6 full)))
      ≡ (1 ∷ 4 ∷ 0 ∷ 4 ∷ 3 ∷ 0 ∷ []) ++ (1 ∷ 4 ∷ 1 ∷ 5 ∷ 3 ∷ 0 ∷ []) ++ (1 ∷ 4 ∷ 1 ∷ 5 ∷ 3 ∷ 8 ∷ [])
  -- The host clears bit 15: the copper stops at once, back at 0. Setting bits, or clearing others, leaves it.
  pub host_stops :
      looked (all_done (running 6) (set_xr 1 0x7FFF)) ++ looked (all_done (running 6) (set_xr 1 0xFFFF))
      ++ looked (all_done (scene (beam_at 2 0 0 0) 0 cleared) (set_xr 1 0x8000)) ++ looked (all_done (running 6) (set_xr 2 0))
      ≡ (10 ∷ 165 ∷ 0 ∷ 0 ∷ 0x40 ∷ []) ++ (10 ∷ 165 ∷ 1 ∷ 6 ∷ 0x40 ∷ []) ++ (2 ∷ 0 ∷ 0 ∷ 0 ∷ 0x40 ∷ []) ++ (10 ∷ 165 ∷ 1 ∷ 6 ∷ 0x40 ∷ [])
  -- XR_SCANLINE reads the line; the blank flags at their edges.
  pub scanline_reads :
      values_of (all_given (all_done (scene (beam_at 524 0 0 0) 0 cleared) (set_word 3 3)) (read_word 5))
      ++ values_of (all_given (scene (beam_at 479 159 0 0) 0 cleared) (read_word 0)) ++ values_of (all_given (scene (beam_at 479 160 0 0) 0 cleared) (read_word 0))
      ++ values_of (all_given (scene (beam_at 480 159 0 0) 0 cleared) (read_word 0)) ++ values_of (all_given (scene (beam_at 524 160 0 0) 0 cleared) (read_word 0))
      ≡ 0x02 ∷ 0x0C ∷ 0x08 ∷ 0x0F ∷ 0x00 ∷ 0x0F ∷ 0x0C ∷ 0x0F ∷ 0x04 ∷ 0x0F ∷ []
  -- The ranges: the last line and position and one more; stopped and not at 0; running with bit 15 clear; the last word and one
  -- more; a flag of 2.
  pub beam_ranges :
      ranged (beam_at 524 799 0 0) 0 ∷ ranged (beam_at 525 0 0 0) 0 ∷ ranged (beam_at 0 800 0 0) 0 ∷ ranged (beam_at 0 0 0 1) 0x8000
      ∷ ranged (beam_at 0 0 1 0) 0x7FFF ∷ ranged (beam_at 0 0 1 1023) 0x8000 ∷ ranged (beam_at 0 0 1 1024) 0x8000 ∷ ranged (beam_at 0 0 2 0) 0x8000 ∷ []
      ≡ true ∷ false ∷ false ∷ false ∷ false ∷ true ∷ false ∷ false ∷ []
