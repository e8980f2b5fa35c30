-- A beam step and the copper (document 02, request 3; source document 001, "Co-processor Instruction Set").
use Rattle.std.specs.Prelude.{Bool, true, false, cond, ◌&&◌, ◌||◌, List, [], ◌∷◌, ℕ, ◌+◌, ◌%◌, eqb, leb, ltb, get_or}
use Rattle.xosera.specs.State.{Beam, is_set}
use Rattle.xosera.specs.Fields.{frame_ended, copper_enabled, opcode, wait_line, wait_pixel, ignores_line, ignores_pixel}
use Rattle.xosera.specs.Fields.{jump_word, register_number, tile_word, colour_word, program_word}
use Rattle.xosera.specs.Beam.{Frame, frame, visible_lines, beam_moved, reaches, copper_started, with_copper, program_length}
use Rattle.xosera.specs.Memories.{no_store}
use Rattle.xosera.specs.Adapter.{Side, with_beam}
use Rattle.xosera.specs.Plan.{Act, quiet, raised}
use Rattle.xosera.specs.XrSpace.{is_blit_register, xr_write}

-- "The visible pixel is at least X; left blanking has reached no X": pixel X stands X positions behind the blank ones, on every line.
unfoldable pub pixel_reached : Frame → Beam → ℕ → Bool
pixel_reached f b x = leb (f.blank + x) b.position

-- "Line at least Y."
unfoldable pub line_reached : Beam → ℕ → Bool
line_reached b y = leb y b.line

-- "A position is reached on a later line, or on its line once the visible pixel is at least X."
unfoldable pub place_reached : Frame → Beam → ℕ → ℕ → Bool
place_reached f b y x = ltb y b.line || eqb y b.line && pixel_reached f b x

-- The position of a WAIT or SKIP: "with one axis ignored the other decides alone"; with both ignored the answer is `both_ignored`, which the
-- instruction gives.
unfoldable pub position_reached : Bool → Frame → Beam → ℕ → ℕ → Bool
position_reached both_ignored f b first second =
    cond (ignores_line second)
    (cond (ignores_pixel second) both_ignored (pixel_reached f b (wait_pixel second)))
    (cond (ignores_pixel second) (line_reached b (wait_line first)) (place_reached f b (wait_line first) (wait_pixel second)))

-- "Program addresses are kept modulo 1,024": the copper at a word of its program.
unfoldable pub copper_at : Side → ℕ → Side
copper_at s k = with_beam s (with_copper s.beam s.beam.running (k % program_length))

-- The copper n words on. An instruction has two.
abbrev pub copper_on : Side → ℕ → Side
copper_on s n = copper_at s (s.beam.word + n)

-- The instructions are given whether the blitter is full, which moves alone ask, and their two words.

-- WAIT stays where it is until the position is reached; with both axes ignored it "never goes on".
abbrev pub wait : Bool → Side → ℕ → ℕ → Act
wait full s first second = quiet (cond (position_reached false frame s.beam first second) (copper_on s 2) s)

-- SKIP passes the next instruction where the position is reached; with both axes ignored it "always skips".
abbrev pub skip : Bool → Side → ℕ → ℕ → Act
skip full s first second = quiet (copper_on s (cond (position_reached true frame s.beam first second) 4 2))

-- JMP.
abbrev pub jump : Bool → Side → ℕ → ℕ → Act
jump full s first second = quiet (copper_at s (jump_word first))

-- A move does what a host's word to that XR address does. "A move beyond a memory is dropped", as is every word to an address that has
-- neither register nor memory, and "as is one to a full blitter".
unfoldable pub move : Bool → Side → ℕ → ℕ → Act
move full s a w = cond (full && is_blit_register a) (quiet (copper_on s 2)) (xr_write (copper_on s 2) a w)

-- MOVER, its flags ignored; MOVEF to tile, MOVEP to colour, MOVEC to copper memory.
abbrev pub mover : Bool → Side → ℕ → ℕ → Act
mover full s first second = move full s (register_number first) second

abbrev pub movef : Bool → Side → ℕ → ℕ → Act
movef full s first second = move full s (0x4000 + tile_word first) second

abbrev pub movep : Bool → Side → ℕ → ℕ → Act
movep full s first second = move full s (0x8000 + colour_word first) second

abbrev pub movec : Bool → Side → ℕ → ℕ → Act
movec full s first second = move full s (0xC000 + program_word first) second

-- "Codes beginning 111 are passed over."
abbrev pub pass : Bool → Side → ℕ → ℕ → Act
pass full s first second = quiet (copper_on s 2)

-- The instructions by opcode, 000 to 110.
abbrev pub instructions : List (Bool → Side → ℕ → ℕ → Act)
instructions = wait ∷ skip ∷ jump ∷ mover ∷ movef ∷ movep ∷ movec ∷ []

-- A word of the copper's program.
unfoldable pub program_at : List ℕ → ℕ → ℕ
program_at xr k = get_or xr (5632 + k % program_length) 0

-- One instruction: the two words from the copper's word on.
unfoldable pub instruction : Bool → Side → Act
instruction full s =
    let first = program_at s.xr s.beam.word in
    let second = program_at s.xr (s.beam.word + 1) in
    get_or instructions (opcode first) pass full s first second

-- The beam one pixel on. "While XR_COPP_CTRL bit 15 is set, reaching line 0 first sets the copper running at its word 0", also where it
-- still runs.
unfoldable pub arrived : Side → Side
arrived s =
    let b = beam_moved frame s.beam in
    with_beam s (cond (reaches 0 b && copper_enabled s.video.coppctrl) (copper_started b) b)

-- "Once the beam has moved, a running copper does one instruction."
unfoldable pub copper_acts : Bool → Side → Act
copper_acts full s = cond (is_set s.beam.running) (instruction full s) (quiet s)

-- A beam step, given whether the blitter is full. "Reaching line 480 is now the frame end": it sets status bit 4, and an instruction can
-- change the status only by setting that bit too. No VRAM word is stored or loaded.
unfoldable pub beam_step : Bool → Side → Act
beam_step full s =
    let here = arrived s in
    let act = copper_acts full here in
    record {
      side = act.side;
      store = no_store;
      load = false;
      start = act.start;
      status = cond (reaches visible_lines here.beam) (raised frame_ended) act.status;
    }
