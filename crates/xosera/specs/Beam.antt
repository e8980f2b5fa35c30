-- The video beam, and the copper's flag and word (document 02, request 3). Both are one record, `Beam`.
use Rattle.std.specs.Prelude.{Bool, cond, ◌&&◌, ℕ, ◌+◌, eqb, leb, ltb}
use Rattle.xosera.specs.State.{Beam}

-- A frame of native pixels: how many positions a line has, how many of them, from the first on, are blank, and how many lines there are.
pub record Frame : Type 0 where
  pub positions : ℕ
  pub blank : ℕ
  pub lines : ℕ

-- "800 to a line, the first 160 blank, 525 lines, 480 visible."
abbrev pub frame : Frame
frame = record { positions = 800; blank = 160; lines = 525 }

abbrev pub visible_lines : ℕ
visible_lines = 480

-- The last position of a line.
unfoldable pub line_ends : Frame → Beam → Bool
line_ends f b = eqb (b.position + 1) f.positions

-- The line after this one; after the last, line 0.
unfoldable pub next_line : Frame → Beam → ℕ
next_line f b = cond (eqb (b.line + 1) f.lines) 0 (b.line + 1)

-- "A beam step of one native pixel": one position on.
unfoldable pub beam_moved : Frame → Beam → Beam
beam_moved f b = record {
  line = cond (line_ends f b) (next_line f b) b.line;
  position = cond (line_ends f b) 0 (b.position + 1);
  running = b.running;
  word = b.word;
}

-- A line is reached at its first position, by the step that moves the beam there.
unfoldable pub reaches : ℕ → Beam → Bool
reaches line b = eqb b.line line && eqb b.position 0

-- The blank flags of XM_SYS_CTRL: "bit 11 in the first 160 positions, bit 10 from line 480 on".
unfoldable pub h_blank : Frame → Beam → Bool
h_blank f b = ltb b.position f.blank

unfoldable pub v_blank : Beam → Bool
v_blank b = leb visible_lines b.line

-- A beam with another copper.
abbrev pub with_copper : Beam → ℕ → ℕ → Beam
with_copper b running word = record { line = b.line; position = b.position; running = running; word = word }

-- "Sets the copper running at its word 0"; "stops it at once, back at 0".
abbrev pub copper_started : Beam → Beam
copper_started b = with_copper b 1 0

abbrev pub copper_stopped : Beam → Beam
copper_stopped b = with_copper b 0 0

-- The words of a copper program.
abbrev pub program_length : ℕ
program_length = 1024

-- "Both at 0 and the copper stopped …, which is called rest."
abbrev pub rest : Beam
rest = record { line = 0; position = 0; running = 0; word = 0 }

unfoldable pub at_rest : Beam → Bool
at_rest b = eqb b.line 0 && eqb b.position 0 && eqb b.running 0 && eqb b.word 0
