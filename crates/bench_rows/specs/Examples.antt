-- Further worked examples, for what the bench table does not tell apart.
use Rattle.std.specs.Prelude.{◌≡◌, true, false, cond, List, [], ◌∷◌, ◌++◌, map, ℕ, zero, suc, replicate}
use Rattle.xosera.specs.Fields.{colour_base, is_blank, is_bitmap, pixel_depth, h_repeat, v_repeat}
use Rattle.xosera.specs.Adapter.{Adapter, with_timer, with_latches}
use Rattle.xosera.specs.Beam.{rest}
use Rattle.xosera.specs.Blitter.{no_regs, idle, moved, stepped}
use Rattle.xosera.specs.Events.{Event, write, read, tick, beam, line, call, step, run}
use Rattle.xosera.specs.Ranges.{reset_state}
use Rattle.calls.specs.Sequences.{after_all}
use Rattle.xosera.specs.Sessions.{CTRL, ANDC, XOR, MODS, SRCS, MODD, DSTD, SHIFT, LINES, WORDS, ◌is◌, blit, set_word, set_xr, read_word, bench}
use Rattle.bench_rows.specs.BenchTable.{Row, ◌gives◌, seen, told, refused, masked, blitted}

-- An idle adapter with memories of any length and any interrupt status.
abbrev pub lent : ℕ → ℕ → ℕ → Adapter
lent vram xr status = record {
  side = record { host = reset_state.host; video = reset_state.video; blit = reset_state.blit; beam = rest; xr = replicate xr 0 };
  status = status;
  queued = 0;
  engine = idle;
  vram = replicate vram 0xFFFF;
}

-- An adapter with a latch, a saved timer byte and the two flags of any size; the engine's other fields are 0.
abbrev pub flagged : ℕ → ℕ → ℕ → ℕ → Adapter
flagged latch saved queued running = record {
  side = record {
    host = with_timer (with_latches reset_state.host (replicate 16 latch)) (record { count = 0; countdown = 0; interval = 0; saved = saved });
    video = reset_state.video;
    blit = no_regs;
    beam = rest;
    xr = replicate 6656 0;
  };
  status = 0;
  queued = queued;
  engine = record { running = running; line = 0; word = 0; kept = 0; regs = no_regs };
  vram = replicate 256 0xFFFF;
}

-- An adapter inside a blit of two lines of two words at shift 1, by line, word, CTRL and kept word, with one VRAM word, 0x5678;
-- and the kept word after a step.
abbrev pub under_way : ℕ → ℕ → ℕ → ℕ → Adapter
under_way l w ctrl kept = moved (lent 0 0 0) (record {
  running = 1;
  line = l;
  word = w;
  kept = kept;
  regs = record { ctrl = ctrl; andc = 0; xor = 0; mods = 0; srcs = 0; modd = 0; dstd = 0; shift = 0xFF01; lines = 1; words = 1 };
}) (0x5678 ∷ [])

abbrev pub kept_after : Adapter → ℕ
kept_after a = (stepped a).engine.kept

-- n words written to XM_XDATA, one more each time, and the low bytes of n words read there from an address on.
abbrev pub numbered : ℕ → ℕ → List Event
numbered zero w = []
numbered (suc n) w = set_word 5 w ++ numbered n (suc w)

abbrev pub read_back : ℕ → ℕ → Adapter → List ℕ
read_back at n a = told (after_all a (set_word 3 at)) (replicate n (call (read 5 true)))

abbrev pub registers_numbered : Adapter
registers_numbered = after_all (bench []) (set_word 4 0 ++ numbered 32 1)

-- A word written to VRAM with all nibbles held back.
abbrev pub masked_write : List Event
masked_write = set_word 0 0 ++ set_word 8 1 ++ set_word 11 0x1234

-- A blit of one word, the constant 0x1234 to 0, and a second one queued behind it, 0x5678 to 2.
abbrev pub two_blits : Adapter
two_blits = after_all (bench []) (blit (CTRL is 1 ++ SRCS is 0x1234 ++ WORDS is 0 ++ SRCS is 0x5678 ++ DSTD is 2 ++ WORDS is 0))

-- A copy of three words whose edges are trimmed, as in the bench table's first row; and behind it, queued, one of one word.
abbrev pub edged_copy : List Event
edged_copy = SRCS is 0x10 ++ SHIFT is 0x7801 ++ WORDS is 2

abbrev pub edged_twice : Adapter
edged_twice = after_all (bench []) (edged_copy ++ SHIFT is 0x6300 ++ WORDS is 0)

-- A word in each of the first and last places of the three XR memories, and one behind each memory.
abbrev pub xr_filled : Adapter
xr_filled =
    after_all (bench []) (set_xr 0x4000 1 ++ set_xr 0x53FF 2 ++ set_word 5 3 ++ set_xr 0x8000 4 ++ set_xr 0x81FF 5 ++ set_word 5 6
    ++ set_xr 0xC000 7 ++ set_xr 0xC3FF 8 ++ set_word 5 9)

-- The nibbles pushed off a line's end enter at the left of the next, those of the word taken last, whatever MOD_S passes over;
-- MOD_S and MOD_D are added after a line.
abbrev pub line_after_line : Row
line_after_line =
    blitted (0x1234 ∷ 0x5678 ∷ 0x9ABC ∷ []) 4 (SRCS is 0x10 ++ MODS is 1 ++ MODD is 2 ++ SHIFT is 0xFF01 ++ LINES is 1 ++ WORDS is 0)
    gives 0x0123 ∷ 0xFFFF ∷ 0xFFFF ∷ 0x49AB ∷ []

-- A blit starts with an empty shifter, the queued one too.
abbrev pub blit_after_blit : Row
blit_after_blit =
    seen 0 2 (bench (0x1234 ∷ 0x5678 ∷ [])) (SRCS is 0x10 ++ SHIFT is 0xFF01 ++ WORDS is 0 ++ SRCS is 0x11 ++ DSTD is 1 ++ WORDS is 0 ++ run 9 ∷ [])
    gives 0x0123 ∷ 0x0567 ∷ []

-- The kept word after a step: the word taken, at the end of a line too; none of a constant, none at a blit's end.
abbrev pub kept_words : Row
kept_words =
    (kept_after (under_way 0 0 0 0) ∷ kept_after (under_way 0 1 0 0x1234) ∷ kept_after (under_way 1 0 0 0x1234) ∷ kept_after (under_way 0 1 1 0x1234)
    ∷ kept_after (under_way 1 1 0 0x1234) ∷ []) gives 0x5678 ∷ 0x5678 ∷ 0x5678 ∷ 0 ∷ 0 ∷ []

-- Any kept word is in range, with a constant too, except on a blit's first word.
abbrev pub kept_range : Row
kept_range =
    refused (under_way 0 0 0 0) (call tick ∷ []) ++ refused (under_way 0 0 0 1) (call tick ∷ []) ++ refused (under_way 0 1 0 0xFFFF) (call tick ∷ [])
    ++ refused (under_way 1 0 0 0xFFFF) (call tick ∷ []) ++ refused (under_way 1 1 1 0xFFFF) (call tick ∷ []) gives 0 ∷ 3 ∷ 0 ∷ 0 ∷ 0 ∷ []

-- The colour test is on S, not on the result.
abbrev pub colour_of_source : Row
colour_of_source = blitted [] 1 (SRCS is 0x0B0A ++ CTRL is 0x0A11 ++ XOR is 0x1111 ++ WORDS is 0) gives 0xFAFF ∷ []

-- And not on the word before it is shifted.
abbrev pub colour_of_shifted : Row
colour_of_shifted = blitted (0x1234 ∷ 0x5678 ∷ []) 2 (SRCS is 0x10 ++ CTRL is 0x0210 ++ SHIFT is 0xFF01 ++ WORDS is 1) gives 0xF123 ∷ 0x4567 ∷ []

-- A constant is not shifted, and ANDC and XOR stay from word to word.
abbrev pub constant_unshifted : Row
constant_unshifted =
    blitted [] 2 (CTRL is 1 ++ SRCS is 0x1234 ++ ANDC is 0x0F00 ++ XOR is 0x1111 ++ SHIFT is 0xFF01 ++ WORDS is 1) gives 0x0125 ∷ 0x0125 ∷ []

-- CTRL bits 7:5 and 3:1 without bit 4, and SHIFT bits 7:2, are without effect.
abbrev pub unused_bits : Row
unused_bits = blitted (0x1234 ∷ 0x5678 ∷ []) 2 (SRCS is 0x10 ++ CTRL is 0x02EE ++ SHIFT is 0xFFFD ++ WORDS is 1) gives 0x0123 ∷ 0x4567 ∷ []

-- ANDC and XOR written after a blit's first word do not reach it.
abbrev pub later_registers : Row
later_registers =
    seen 0 2 (bench []) (blit (CTRL is 1 ++ SRCS is 0x1234 ++ WORDS is 1) ++ run 1 ∷ ANDC is 0x00FF ++ XOR is 0x1111 ++ run 9 ∷ [])
    gives 0x1234 ∷ 0x1234 ∷ []

-- A queued blit has the registers written last; busy and full, then busy, then neither, all with the beam in left blanking.
abbrev pub queued_registers : Row
queued_registers =
    seen 0 3 two_blits (run 9 ∷ []) ++ told two_blits (call (read 0 false) ∷ run 1 ∷ call (read 0 false) ∷ run 9 ∷ call (read 0 false) ∷ [])
    gives 0x1234 ∷ 0xFFFF ∷ 0x5678 ∷ 0x68 ∷ 1 ∷ 0x28 ∷ 1 ∷ 0x08 ∷ []

-- A step counts 1 while words are left, and 0 on an idle engine; each blit's end sets bit 6.
abbrev pub step_counts : Row
step_counts =
    told two_blits (step ∷ call (read 1 true) ∷ call (write 1 true 0x40) ∷ step ∷ call (read 1 true) ∷ step ∷ [])
    gives 1 ∷ 0x40 ∷ 0 ∷ 1 ∷ 0x40 ∷ 0 ∷ []

-- A full blitter refuses 0x40 to 0x49 and not 0x3F or 0x4A.
abbrev pub full_registers : Row
full_registers =
    refused (after_all two_blits (set_word 4 0x3F)) (set_word 5 0 ++ set_word 5 0)
    ++ refused two_blits (set_word 4 0x49 ++ set_word 5 0 ++ set_word 4 0x4A ++ set_word 5 0)
    gives 0 ∷ 0 ∷ 0 ∷ 5 ∷ 0 ∷ 0 ∷ 0 ∷ 5 ∷ 0 ∷ 0 ∷ 0 ∷ 0 ∷ []

-- Words 1 to 32 written at 0x00 to 0x1F: those that read back, and status bit 4 of 0x03.
abbrev pub registers_read_back : Row
registers_read_back =
    read_back 0 32 registers_numbered ++ told registers_numbered (call (read 1 true) ∷ [])
    gives (1 ∷ 2 ∷ 3 ∷ 0 ∷ 5 ∷ 6 ∷ []) ++ replicate 10 0 ++ (17 ∷ 18 ∷ 19 ∷ 20 ∷ 21 ∷ 0 ∷ 23 ∷ 0 ∷ 25 ∷ 26 ∷ 27 ∷ 28 ∷ 29 ∷ 0 ∷ 31 ∷ 0 ∷ 0x10 ∷ [])

-- The blitter's registers read 0.
abbrev pub blitter_reads_zero : Row
blitter_reads_zero = read_back 0x40 10 two_blits gives replicate 10 0

-- The XR memories, each at its first and last place and behind it.
abbrev pub xr_memories : Row
xr_memories =
    read_back 0x4000 1 xr_filled ++ read_back 0x53FF 2 xr_filled ++ read_back 0x8000 1 xr_filled ++ read_back 0x81FF 2 xr_filled
    ++ read_back 0xC000 1 xr_filled ++ read_back 0xC3FF 2 xr_filled gives 1 ∷ 2 ∷ 0 ∷ 4 ∷ 5 ∷ 0 ∷ 7 ∷ 8 ∷ 0 ∷ []

-- The lowest number that applies: 1 before 2 before 3 before 4, and status 127 is in range.
abbrev pub lowest_refusal : Row
lowest_refusal =
    refused (lent 128 6655 128) (call (write 16 true 0) ∷ call (read 16 false) ∷ call tick ∷ call beam ∷ call line ∷ step ∷ run 1 ∷ [])
    ++ refused (lent 256 6655 128) (call (write 16 true 0) ∷ call (read 16 false) ∷ call tick ∷ call beam ∷ step ∷ run 1 ∷ [])
    ++ refused (lent 256 6656 128) (call (write 16 true 0) ∷ call (read 16 false) ∷ call tick ∷ call beam ∷ step ∷ run 1 ∷ [])
    ++ refused (lent 256 6656 127) (call (write 16 true 0) ∷ call (read 16 false) ∷ call (read 15 false) ∷ call tick ∷ call beam ∷ step ∷ run 1 ∷ [])
    gives (1 ∷ 1 ∷ 3 ∷ 1 ∷ 3 ∷ 1 ∷ 1 ∷ []) ++ (2 ∷ 2 ∷ 3 ∷ 2 ∷ 2 ∷ 2 ∷ []) ++ (3 ∷ 3 ∷ 3 ∷ 3 ∷ 3 ∷ 3 ∷ []) ++ (4 ∷ 4 ∷ 0 ∷ 0 ∷ 0 ∷ 0 ∷ 0 ∷ [])

-- Timer tick and line question take only the state.
abbrev pub state_alone : Row
state_alone = refused (lent 128 6655 127) (call tick ∷ call line ∷ []) gives 0 ∷ 0 ∷ []

-- Latches and the saved timer byte are bytes; a flag is 1 or 0, and a blit is queued only while one runs.
abbrev pub flags_and_bytes : Row
flags_and_bytes =
    refused (flagged 255 255 0 0) (call tick ∷ []) ++ refused (flagged 256 0 0 0) (call tick ∷ []) ++ refused (flagged 0 256 0 0) (call tick ∷ [])
    ++ refused (flagged 0 0 1 1) (call tick ∷ []) ++ refused (flagged 0 0 1 0) (call tick ∷ [])
    ++ refused (flagged 0 0 2 1) (call tick ∷ []) ++ refused (flagged 0 0 0 2) (call tick ∷ []) ++ refused (flagged 0 0 2 2) (call tick ∷ [])
    gives 0 ∷ 3 ∷ 3 ∷ 0 ∷ 3 ∷ 3 ∷ 3 ∷ 3 ∷ []

-- Bit 15 written to XM_INT_CTRL is refused and leaves the interrupt mask; bit 14 is part of it.
abbrev pub reconfigure_refused : Row
reconfigure_refused =
    refused (bench []) (set_word 1 0x8F00 ++ set_word 1 0x4000)
    ++ told (after_all (bench []) (set_word 1 0x8F00)) (call (read 1 false) ∷ []) ++ told (after_all (bench []) (set_word 1 0x4000)) (call (read 1 false) ∷ [])
    gives 0 ∷ 6 ∷ 0 ∷ 0 ∷ 0x00 ∷ 0x40 ∷ []

-- A write to 0x03 sets bit 4; the line is up when the mask has it too, and down again when it is cleared.
abbrev pub line_up_and_down : Row
line_up_and_down =
    told (after_all (bench []) (set_xr 3 0)) (call (read 1 true) ∷ call line ∷ set_word 1 0x1000 ++ call line ∷ set_word 1 0x1010 ++ call line ∷ [])
    gives 0x10 ∷ 0 ∷ 0 ∷ 0 ∷ 1 ∷ 0 ∷ 0 ∷ 0 ∷ []

-- A latch for each register.
abbrev pub latch_each : Row
latch_each =
    told (after_all (bench []) (call (write 8 false 0x12) ∷ call (write 9 false 0x34) ∷ call (write 8 true 0x56) ∷ [])) (read_word 8) gives 0x12 ∷ 0x56 ∷ []

-- Data reads go by RD_INCR; an address is taken modulo the length where memory is touched, not where it is stored.
abbrev pub data_reads : Row
data_reads =
    told (after_all (bench (0x1234 ∷ 0x5678 ∷ 0x9ABC ∷ [])) (set_word 6 2 ++ set_word 8 1 ++ set_word 7 0x0110)) (read_word 10 ++ read_word 11 ++ read_word 7)
    gives 0x12 ∷ 0x34 ∷ 0x9A ∷ 0xBC ∷ 0x01 ∷ 0x14 ∷ []

-- Nibble mask 0 stores nothing and still moves the write address.
abbrev pub mask_zero : Row
mask_zero =
    seen 0 1 (bench []) masked_write ++ told (after_all (bench []) masked_write) (read_word 9) gives 0xFFFF ∷ 0x00 ∷ 0x01 ∷ []

-- Masks of steps (document 02, request 2): those of the bench table's first row, word by word, then none; both masks on a line of
-- one word; the colour test by nibbles and by bytes.
abbrev pub step_masks : Row
step_masks =
    masked (after_all (bench (0x1234 ∷ 0x5678 ∷ 0x9ABC ∷ [])) edged_copy) (step ∷ step ∷ step ∷ step ∷ [])
    ++ masked (after_all (bench []) (CTRL is 1 ++ SHIFT is 0x7E00 ++ WORDS is 0)) (step ∷ [])
    ++ masked (after_all (bench []) (blit (SRCS is 0x0B0A ++ CTRL is 0x0A11 ++ WORDS is 0))) (step ∷ [])
    ++ masked (after_all (bench []) (blit (SRCS is 0x0B0A ++ CTRL is 0x0A31 ++ WORDS is 0))) (step ∷ [])
    gives 7 ∷ 0xF ∷ 8 ∷ 0 ∷ 6 ∷ 4 ∷ 0xC ∷ []

-- Masks of runs: of its last word, also at a blit's end and in the queued blit, and with n left over; 0 of none.
abbrev pub run_masks : Row
run_masks =
    masked edged_twice (run 0 ∷ run 1 ∷ run 1 ∷ run 9 ∷ run 9 ∷ []) ++ masked edged_twice (run 2 ∷ run 2 ∷ [])
    ++ masked edged_twice (run 3 ∷ run 1 ∷ []) ++ masked edged_twice (run 4 ∷ [])
    gives 0 ∷ 7 ∷ 0xF ∷ 2 ∷ 0 ∷ 0xF ∷ 2 ∷ 8 ∷ 2 ∷ 2 ∷ []

-- Masks of writes: an odd data write's, at 10 and 11; none of any other or of a refused one, a read, a tick or a beam step.
abbrev pub write_masks : Row
write_masks =
    masked (bench []) (set_word 0 5 ++ set_word 10 0xFFFF ++ set_word 0 0xFA ++ set_word 11 0 ++ set_word 9 0xFFFF ++ set_word 5 0xFFFF ++ set_word 12 0xFFFF)
    ++ masked (bench []) (call (write 26 true 0xFF) ∷ call (read 10 true) ∷ call tick ∷ call beam ∷ [])
    ++ masked (lent 128 6656 0) (call (write 10 true 0xFF) ∷ step ∷ run 1 ∷ [])
    gives 0 ∷ 0 ∷ 0 ∷ 5 ∷ 0 ∷ 0 ∷ 0 ∷ 0xA ∷ 0 ∷ 0 ∷ 0 ∷ 0 ∷ 0 ∷ 0 ∷ 0 ∷ 0 ∷ 0 ∷ 0 ∷ 0 ∷ 0 ∷ 0 ∷ []

-- Reset: the beam in left blanking, nibble mask 15, XR_VID_RIGHT 640; 12 to 15 read 0 also when written.
abbrev pub after_reset : Row
after_reset =
    told (after_all (bench []) (set_word 3 5 ++ set_word 12 0x1234 ++ set_word 15 0x1234)) (read_word 0 ++ read_word 5 ++ read_word 12 ++ read_word 15)
    gives 0x08 ∷ 0x0F ∷ 0x02 ∷ 0x80 ∷ 0 ∷ 0 ∷ 0 ∷ 0 ∷ []

-- The fields of GFX_CTRL 0xFFB6: base, blank, bitmap, depth, repeats.
abbrev pub gfx_fields : Row
gfx_fields =
    (colour_base 0xFFB6 ∷ cond (is_blank 0xFFB6) 1 0 ∷ cond (is_bitmap 0xFFB6) 1 0 ∷ pixel_depth 0xFFB6 ∷ h_repeat 0xFFB6 ∷ v_repeat 0xFFB6 ∷ [])
    gives 0xFF ∷ 1 ∷ 0 ∷ 3 ∷ 2 ∷ 3 ∷ []

abbrev pub examples : List Row
examples =
    line_after_line ∷ blit_after_blit ∷ kept_words ∷ kept_range ∷ colour_of_source ∷ colour_of_shifted ∷ constant_unshifted ∷ unused_bits ∷ later_registers
    ∷ queued_registers ∷ step_counts ∷ full_registers ∷ registers_read_back ∷ blitter_reads_zero ∷ xr_memories ∷ lowest_refusal ∷ state_alone
    ∷ flags_and_bytes ∷ reconfigure_refused ∷ line_up_and_down ∷ latch_each ∷ data_reads ∷ mask_zero ∷ step_masks ∷ run_masks ∷ write_masks
    ∷ after_reset ∷ gfx_fields ∷ []

-- Every example gives what it should.
abbrev pub ExamplesHold : Type 0
ExamplesHold = map (λ (r : Row). r.given) examples ≡ map (λ (r : Row). r.should) examples
