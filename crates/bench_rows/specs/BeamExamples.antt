-- Worked examples of the beam and the copper (document 02, request 3).
use Rattle.std.specs.Prelude.{◌≡◌, false, cond, List, [], ◌∷◌, ◌++◌, map, ℕ, ◌-◌, length, get_or, replicate}
use Rattle.xosera.specs.State.{Beam, is_set, beam_words}
use Rattle.xosera.specs.Fields.{opcode}
use Rattle.xosera.specs.Beam.{frame}
use Rattle.xosera.specs.Adapter.{Adapter}
use Rattle.xosera.specs.Plan.{Act, perform}
use Rattle.xosera.specs.Copper.{position_reached, pass, instructions}
use Rattle.xosera.specs.Events.{tick, beam, call}
use Rattle.xosera.specs.Ranges.{reset_state}
use Rattle.calls.specs.Calls.{after}
use Rattle.calls.specs.Sequences.{after_all}
use Rattle.xosera.specs.Sessions.{set_word, set_xr, read_word}
use Rattle.bench_rows.specs.BenchTable.{Row, ◌gives◌, told, refused}

abbrev pub beam_at : ℕ → ℕ → ℕ → ℕ → Beam
beam_at l p running word = record { line = l; position = p; running = running; word = word }

-- An adapter with a beam and a copper anywhere, XR_COPP_CTRL and XR memory; status bit 6 is set.
abbrev pub scene : Beam → ℕ → List ℕ → Adapter
scene b ctrl xr = record {
  side = record {
    host = reset_state.host;
    video = record { vidctrl = 0; coppctrl = ctrl; audctrl = 0; vidleft = 0; vidright = 640; pa = replicate 7 0; pb = replicate 7 0 };
    blit = reset_state.blit;
    beam = b;
    xr = xr;
  };
  status = 0x40;
  queued = 0;
  engine = reset_state.engine;
  vram = replicate 256 0xFFFF;
}

-- XR memory that is all 0, and so a program of WAITs for line 0, pixel 0; and XR memory with a program.
abbrev pub cleared : List ℕ
cleared = replicate 6656 0

abbrev pub holding : List ℕ → List ℕ
holding program = replicate 5632 0 ++ program ++ replicate (1024 - length program) 0

-- Beam, copper and status of an adapter, and those after one beam step.
abbrev pub looked : Adapter → List ℕ
looked a = beam_words a.side.beam ++ a.status ∷ []

abbrev pub stepped : Beam → ℕ → List ℕ → List ℕ
stepped b ctrl xr = looked (after (scene b ctrl xr) (call beam))

-- What an instruction by its two words asks of an adapter, and the adapter then.
abbrev pub asked : Adapter → ℕ → ℕ → Act
asked a first second = get_or instructions (opcode first) pass (is_set a.queued) a.side first second

abbrev pub done : ℕ → ℕ → Adapter → Adapter
done first second a = perform (asked a first second) a

-- With the copper at word 0 on line 10, position 165, or at any word.
abbrev pub running : ℕ → Adapter
running word = scene (beam_at 10 165 1 word) 0x8000 cleared

abbrev pub acted : ℕ → ℕ → Adapter
acted first second = done first second (running 0)

-- The beam moves by one; line 480 sets bit 4 at its first position, also where the copper runs, and leaves the other bits.
abbrev pub beam_moves : Row
beam_moves =
    stepped (beam_at 0 0 0 0) 0 cleared ++ stepped (beam_at 0 799 0 0) 0 cleared ++ stepped (beam_at 524 799 0 0) 0 cleared
    ++ stepped (beam_at 479 799 0 0) 0 cleared ++ stepped (beam_at 479 799 1 0) 0x8000 cleared
    ++ stepped (beam_at 480 0 0 0) 0 cleared ++ stepped (beam_at 480 799 0 0) 0 cleared
    gives (0 ∷ 1 ∷ 0 ∷ 0 ∷ 0x40 ∷ []) ++ (1 ∷ 0 ∷ 0 ∷ 0 ∷ 0x40 ∷ []) ++ (0 ∷ 0 ∷ 0 ∷ 0 ∷ 0x40 ∷ [])
    ++ (480 ∷ 0 ∷ 0 ∷ 0 ∷ 0x50 ∷ []) ++ (480 ∷ 0 ∷ 1 ∷ 2 ∷ 0x50 ∷ []) ++ (480 ∷ 1 ∷ 0 ∷ 0 ∷ 0x40 ∷ []) ++ (481 ∷ 0 ∷ 0 ∷ 0 ∷ 0x40 ∷ [])

-- Line 0 sets an enabled copper running at word 0, also one that runs, and it does an instruction in the same step: WAIT stays, 111
-- is passed over. Not with bit 15 clear, nor at another line or position; a running one goes on there.
abbrev pub copper_starts : Row
copper_starts =
    stepped (beam_at 524 799 0 0) 0x8000 cleared ++ stepped (beam_at 524 799 1 10) 0x8000 (holding (0xE000 ∷ []))
    ++ stepped (beam_at 524 799 0 0) 0x7FFF cleared ++ stepped (beam_at 523 799 0 0) 0x8000 cleared ++ stepped (beam_at 0 0 0 0) 0x8000 cleared
    ++ stepped (beam_at 479 799 0 0) 0x8000 cleared ++ stepped (beam_at 2 799 1 10) 0x8000 cleared
    gives (0 ∷ 0 ∷ 1 ∷ 0 ∷ 0x40 ∷ []) ++ (0 ∷ 0 ∷ 1 ∷ 2 ∷ 0x40 ∷ []) ++ (0 ∷ 0 ∷ 0 ∷ 0 ∷ 0x40 ∷ [])
    ++ (524 ∷ 0 ∷ 0 ∷ 0 ∷ 0x40 ∷ []) ++ (0 ∷ 1 ∷ 0 ∷ 0 ∷ 0x40 ∷ []) ++ (480 ∷ 0 ∷ 0 ∷ 0 ∷ 0x50 ∷ []) ++ (3 ∷ 0 ∷ 1 ∷ 12 ∷ 0x40 ∷ [])

-- Whether the position of a WAIT with these two words is reached by a beam on a line at a position.
abbrev pub reached_at : ℕ → ℕ → ℕ → ℕ → ℕ
reached_at first second l p = cond (position_reached false frame (beam_at l p 1 0) first second) 1 0

-- A WAIT for line 10, pixel 5, which is position 165: before it on its line, there, in the blanking of that line, in that of a later
-- line, and far behind on an earlier line.
abbrev pub reached_for : ℕ → ℕ → List ℕ
reached_for first second =
    reached_at first second 10 164 ∷ reached_at first second 10 165 ∷ reached_at first second 10 0 ∷ reached_at first second 11 0
    ∷ reached_at first second 9 301 ∷ []

-- Bits 12:11 of the first word and 15 and 3:2 of the second are without effect. Then the line ignored, the pixel ignored, both.
abbrev pub positions : Row
positions =
    reached_for 0x000A 0x0050 ++ reached_for 0x180A 0x805C ++ reached_for 0x000A 0x0051 ++ reached_for 0x000A 0x0052 ++ reached_for 0x000A 0x0053
    gives (0 ∷ 1 ∷ 0 ∷ 1 ∷ 0 ∷ []) ++ (0 ∷ 1 ∷ 0 ∷ 1 ∷ 0 ∷ []) ++ (0 ∷ 1 ∷ 0 ∷ 0 ∷ 1 ∷ []) ++ (1 ∷ 1 ∷ 1 ∷ 1 ∷ 0 ∷ []) ++ (0 ∷ 0 ∷ 0 ∷ 0 ∷ 0 ∷ [])

-- Y and X have eleven bits: line 1,024, line 512 and pixel 1,024, which are never reached, and pixel 639, the last.
abbrev pub far_positions : Row
far_positions =
    (reached_at 0x0400 0x0002 2 0 ∷ reached_at 0x0200 0x0002 2 0 ∷ reached_at 0x0000 0x4001 2 301 ∷ reached_at 0x0000 0x27F1 2 798
    ∷ reached_at 0x0000 0x27F1 2 799 ∷ []) gives 0 ∷ 0 ∷ 0 ∷ 0 ∷ 1 ∷ []

-- Left blanking has reached no X, not even 0, and lines from 480 on count their pixels alike: pixel 0 of line 480, and of any.
abbrev pub blank_positions : Row
blank_positions =
    (reached_at 0x01E0 0x0000 480 1 ∷ reached_at 0x01E0 0x0000 480 159 ∷ reached_at 0x01E0 0x0000 480 160 ∷ reached_at 0x01E0 0x0000 481 0
    ∷ reached_at 0x0000 0x0001 500 159 ∷ reached_at 0x0000 0x0001 500 160 ∷ []) gives 0 ∷ 0 ∷ 1 ∷ 1 ∷ 0 ∷ 1 ∷ []

-- WAIT for pixels 6 and 5, and with both axes ignored; SKIP alike, also from word 1,022; JMP, its address modulo 1,024; 111.
abbrev pub words_after : Row
words_after =
    map (λ (a : Adapter). a.side.beam.word)
    (acted 0x000A 0x0060 ∷ acted 0x000A 0x0050 ∷ acted 0x000A 0x0053 ∷ acted 0x200A 0x0060 ∷ acted 0x200A 0x0050 ∷ acted 0x200A 0x0053
    ∷ done 0x200A 0x0053 (running 1022) ∷ acted 0x4005 0xFFFF ∷ acted 0x5FFF 0 ∷ acted 0xFFFF 0xFFFF ∷ [])
    gives 0 ∷ 2 ∷ 0 ∷ 2 ∷ 4 ∷ 4 ∷ 2 ∷ 5 ∷ 1023 ∷ 2 ∷ []

-- The second word of an instruction at 1,023, a MOVER to 0x00, is word 0, and the next instruction is at 1.
abbrev pub last_word : Adapter
last_word = after (scene (beam_at 2 0 1 1023) 0x8000 (holding (0x1234 ∷ replicate 1022 0 ++ 0x6000 ∷ []))) (call beam)

abbrev pub program_wraps : Row
program_wraps = (last_word.side.video.vidctrl ∷ last_word.side.beam.word ∷ []) gives 0x1234 ∷ 1 ∷ []

-- MOVER, its flags ignored, its address of eight bits; the copper goes on, and the host's write address stays.
abbrev pub movers : Row
movers =
    ((acted 0x6000 0x1234).side.video.vidctrl ∷ (acted 0x7F02 0x5678).side.video.audctrl ∷ (acted 0x6082 0x5678).side.video.audctrl
    ∷ (acted 0x6000 0x1234).side.beam.word ∷ (acted 0x6000 0x1234).side.host.xr.wrxaddr.0 ∷ []) gives 0x1234 ∷ 0x5678 ∷ 0 ∷ 2 ∷ 0 ∷ []

-- MOVEF, MOVEP and MOVEC at their last places. Moves beyond a memory are dropped, and the copper goes on: MOVEF to 5,120 leaves the first
-- colour word and both ends of tile memory, MOVEC to 1,024 the program's first word.
abbrev pub moves : Row
moves =
    (get_or (acted 0x93FF 1).side.xr 5119 0 ∷ get_or (acted 0xBFFF 2).side.xr 5631 0 ∷ get_or (acted 0xDBFF 3).side.xr 6655 0
    ∷ get_or (acted 0x9400 4).side.xr 5120 0 ∷ get_or (acted 0x9400 4).side.xr 0 0 ∷ get_or (acted 0x9400 4).side.xr 5119 0
    ∷ get_or (acted 0xC400 5).side.xr 5632 0 ∷ (acted 0xC400 5).side.beam.word ∷ [])
    gives 1 ∷ 2 ∷ 3 ∷ 0 ∷ 0 ∷ 0 ∷ 0 ∷ 2 ∷ []

-- MOVER to 0x03 sets bit 4; to 0x01 with bit 15 clear is stored and stops the copper at word 0, with bit 15 set it goes on.
abbrev pub mover_acts : Row
mover_acts =
    looked (acted 0x6003 0) ++ looked (acted 0x6001 0x7FFF) ++ looked (acted 0x6001 0xFFFF) ++ (acted 0x6001 0x7FFF).side.video.coppctrl ∷ []
    gives (10 ∷ 165 ∷ 1 ∷ 2 ∷ 0x50 ∷ []) ++ (10 ∷ 165 ∷ 0 ∷ 0 ∷ 0x40 ∷ []) ++ (10 ∷ 165 ∷ 1 ∷ 2 ∷ 0x40 ∷ []) ++ 0x7FFF ∷ []

-- MOVER to 0x40 is stored, to 0x49 starts a blit, then queues one; on a full blitter both are dropped, and one to 0x00 is not.
abbrev pub started : Adapter
started = done 0x6049 4 (acted 0x6040 3)

abbrev pub full : Adapter
full = done 0x6049 5 started

abbrev pub blitters : Adapter → List ℕ
blitters a = a.engine.running ∷ a.engine.regs.words ∷ a.queued ∷ a.side.blit.words ∷ a.side.blit.ctrl ∷ a.side.video.vidctrl ∷ []

abbrev pub mover_starts : Row
mover_starts =
    blitters started ++ blitters full ++ blitters (done 0x6000 8 (done 0x6040 7 (done 0x6049 6 full)))
    gives (1 ∷ 4 ∷ 0 ∷ 4 ∷ 3 ∷ 0 ∷ []) ++ (1 ∷ 4 ∷ 1 ∷ 5 ∷ 3 ∷ 0 ∷ []) ++ (1 ∷ 4 ∷ 1 ∷ 5 ∷ 3 ∷ 8 ∷ [])

-- The host clears bit 15: the copper stops at once, back at 0. Setting bits, or clearing others, leaves it.
abbrev pub host_stops : Row
host_stops =
    looked (after_all (running 6) (set_xr 1 0x7FFF)) ++ looked (after_all (running 6) (set_xr 1 0xFFFF))
    ++ looked (after_all (scene (beam_at 2 0 0 0) 0 cleared) (set_xr 1 0x8000)) ++ looked (after_all (running 6) (set_xr 2 0))
    gives (10 ∷ 165 ∷ 0 ∷ 0 ∷ 0x40 ∷ []) ++ (10 ∷ 165 ∷ 1 ∷ 6 ∷ 0x40 ∷ []) ++ (2 ∷ 0 ∷ 0 ∷ 0 ∷ 0x40 ∷ []) ++ (10 ∷ 165 ∷ 1 ∷ 6 ∷ 0x40 ∷ [])

-- XR_SCANLINE reads the line; the blank flags at their edges.
abbrev pub scanline_reads : Row
scanline_reads =
    told (after_all (scene (beam_at 524 0 0 0) 0 cleared) (set_word 3 3)) (read_word 5)
    ++ told (scene (beam_at 479 159 0 0) 0 cleared) (read_word 0) ++ told (scene (beam_at 479 160 0 0) 0 cleared) (read_word 0)
    ++ told (scene (beam_at 480 159 0 0) 0 cleared) (read_word 0) ++ told (scene (beam_at 524 160 0 0) 0 cleared) (read_word 0)
    gives 0x02 ∷ 0x0C ∷ 0x08 ∷ 0x0F ∷ 0x00 ∷ 0x0F ∷ 0x0C ∷ 0x0F ∷ 0x04 ∷ 0x0F ∷ []

-- The ranges: the last line and position and one more; stopped and not at 0; running with bit 15 clear; the last word and one more; a
-- flag of 2.
abbrev pub range_of : Beam → ℕ → List ℕ
range_of b ctrl = refused (scene b ctrl cleared) (call tick ∷ [])

abbrev pub beam_ranges : Row
beam_ranges =
    range_of (beam_at 524 799 0 0) 0 ++ range_of (beam_at 525 0 0 0) 0 ++ range_of (beam_at 0 800 0 0) 0 ++ range_of (beam_at 0 0 0 1) 0x8000
    ++ range_of (beam_at 0 0 1 0) 0x7FFF ++ range_of (beam_at 0 0 1 1023) 0x8000 ++ range_of (beam_at 0 0 1 1024) 0x8000 ++ range_of (beam_at 0 0 2 0) 0x8000
    gives 0 ∷ 3 ∷ 3 ∷ 3 ∷ 3 ∷ 0 ∷ 3 ∷ 3 ∷ []

abbrev pub beam_examples : List Row
beam_examples =
    beam_moves ∷ copper_starts ∷ positions ∷ far_positions ∷ blank_positions ∷ words_after ∷ program_wraps ∷ movers ∷ moves ∷ mover_acts
    ∷ mover_starts ∷ host_stops ∷ scanline_reads ∷ beam_ranges ∷ []

-- Every example gives what it should.
abbrev pub BeamExamplesHold : Type 0
BeamExamplesHold = map (λ (r : Row). r.given) beam_examples ≡ map (λ (r : Row). r.should) beam_examples
