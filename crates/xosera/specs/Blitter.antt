-- The 2D blitter (document 01, "The blitter"): an engine, which draws one word a step and knows nothing of the host; then its
-- start, its steps and its end on the whole adapter.
use Rattle.std.specs.Prelude.{Bool, cond, ◌&&◌, List, ℕ, zero, suc, ◌+◌, ◌*◌, ◌-◌, ◌%◌, eqb}
use Rattle.std.specs.Int.Bits.{bit_and, bit_or}
use Rattle.xosera.specs.declared.BlitRegs.{BlitRegs}
use Rattle.xosera.specs.declared.Engine.{Engine}
use Rattle.xosera.specs.State.{is_set}
use Rattle.xosera.specs.Words.{wrap, shifted, combined, colour_mask}
use Rattle.xosera.specs.Fields.{blit_done, constant_source, colour_tested, whole_bytes, test_colour, first_edge, last_edge, shift_count}
use Rattle.xosera.specs.Memories.{word, Store, stored}
use Rattle.xosera.specs.Adapter.{Adapter}

-- Ten registers, all 0.
abbrev pub no_regs : BlitRegs
no_regs = record { ctrl = 0; andc = 0; xor = 0; mods = 0; srcs = 0; modd = 0; dstd = 0; shift = 0; lines = 0; words = 0 }

-- An idle engine: its working fields are all 0.
abbrev pub idle : Engine
idle = record { running = 0; line = 0; word = 0; kept = 0; regs = no_regs }

-- A blit starts with a copy of the ten registers, LINES taken mod 32,768, and an empty shifter.
unfoldable pub launched : BlitRegs → Engine
launched r = record {
  running = 1;
  line = 0;
  word = 0;
  kept = 0;
  regs = record {
    ctrl = r.ctrl;
    andc = r.andc;
    xor = r.xor;
    mods = r.mods;
    srcs = r.srcs;
    modd = r.modd;
    dstd = r.dstd;
    shift = r.shift;
    lines = r.lines % 32768;
    words = r.words;
  };
}

-- Writing WORDS on an idle engine launches a blit; on a running one it queues: the registers wait in place, and the blitter is
-- full.
unfoldable pub started_engine : Engine → BlitRegs → Engine
started_engine e r = cond (is_set e.running) e (launched r)

abbrev pub blit_started : Adapter → Adapter
blit_started a = record {
  side = a.side;
  status = a.status;
  queued = a.engine.running;
  engine = started_engine a.engine a.side.blit;
  vram = a.vram;
}

-- The source is the constant SRC_S if CTRL bit 0.
unfoldable pub is_constant : Engine → Bool
is_constant e = constant_source e.regs.ctrl

-- Points 1 and 2: the word that a step takes, from VRAM at the source address; with a constant none, 0, which leaves the shifter
-- empty.
unfoldable pub fetched : Engine → List ℕ → ℕ
fetched e vram = cond (is_constant e) 0 (word vram e.regs.srcs)

-- S, points 1 and 2: the constant as it is, or the word taken, through the shifter.
unfoldable pub sourced : Engine → ℕ → ℕ
sourced e w = cond (is_constant e) e.regs.srcs (shifted (shift_count e.regs.shift) e.kept w)

-- Point 4: the first mask on a line's first word.
unfoldable pub first_mask : Engine → ℕ
first_mask e = cond (eqb e.word 0) (first_edge e.regs.shift) 15

-- A line's last word.
unfoldable pub last_word : Engine → Bool
last_word e = eqb e.word e.regs.words

-- Point 4: the last mask on a line's last word.
unfoldable pub last_mask : Engine → ℕ
last_mask e = cond (last_word e) (last_edge e.regs.shift) 15

-- Point 4: the colour test of S against T, if CTRL asks for it.
unfoldable pub test_mask : Engine → ℕ → ℕ
test_mask e s = cond (colour_tested e.regs.ctrl) (colour_mask (whole_bytes e.regs.ctrl) (test_colour e.regs.ctrl) s) 15

-- Point 4: a nibble is written unless one of the three holds it back.
unfoldable pub write_mask : Engine → ℕ → ℕ
write_mask e s = bit_and (bit_and (first_mask e) (last_mask e)) (test_mask e s)

-- One step's store, from the word taken: the result, point 3, to the destination under the write mask.
unfoldable pub drawing : Engine → ℕ → Store
drawing e w = record {
  mask = write_mask e (sourced e w);
  addr = e.regs.dstd;
  value = combined (sourced e w) e.regs.andc e.regs.xor;
}

-- VRAM after one step.
unfoldable pub drawn : Engine → List ℕ → List ℕ
drawn e vram = stored (drawing e (fetched e vram)) vram

-- The blit's first word, and its last.
unfoldable pub first_step : Engine → Bool
first_step e = eqb e.line 0 && eqb e.word 0

unfoldable pub last_step : Engine → Bool
last_step e = last_word e && eqb e.line e.regs.lines

-- Points 1 and 5: the source goes up by 1 unless it is a constant, and by MOD_S after a line.
unfoldable pub next_source : Engine → ℕ
next_source e =
    let s = cond (is_constant e) e.regs.srcs (wrap e.regs.srcs 1) in
    cond (last_word e) (wrap s e.regs.mods) s

-- Point 5: the destination goes up by 1, and by MOD_D after a line.
unfoldable pub next_dest : Engine → ℕ
next_dest e =
    let d = wrap e.regs.dstd 1 in
    cond (last_word e) (wrap d e.regs.modd) d

-- The engine after one step, from the word taken. The shifter keeps that word, whole and unshifted, from line to line too: only a
-- constant (`fetched`), a blit's start (`launched`) and its end (`succeeding`) empty it (point 2; document 02, request 4).
unfoldable pub next : Engine → ℕ → Engine
next e w = record {
  running = 1;
  line = cond (last_word e) (e.line + 1) e.line;
  word = cond (last_word e) 0 (e.word + 1);
  kept = w;
  regs = record {
    ctrl = e.regs.ctrl;
    andc = e.regs.andc;
    xor = e.regs.xor;
    mods = e.regs.mods;
    srcs = next_source e;
    modd = e.regs.modd;
    dstd = next_dest e;
    shift = e.regs.shift;
    lines = e.regs.lines;
    words = e.regs.words;
  };
}

-- An adapter with another engine and VRAM.
abbrev pub moved : Adapter → Engine → List ℕ → Adapter
moved a e vram = record { side = a.side; status = a.status; queued = a.queued; engine = e; vram = vram }

-- The adapter with the engine's next word drawn.
abbrev pub word_drawn : Adapter → Adapter
word_drawn a = moved a (next a.engine (fetched a.engine a.vram)) (drawn a.engine a.vram)

-- The engine after a blit's end: the queued blit's, if any, which copies the registers now.
unfoldable pub succeeding : Bool → BlitRegs → Engine
succeeding queued r = cond queued (launched r) idle

-- A blit's end: it sets status bit 6 and starts the queued blit, if any.
abbrev pub blit_ended : Adapter → Adapter
blit_ended a = record {
  side = a.side;
  status = bit_or a.status blit_done;
  queued = 0;
  engine = succeeding (is_set a.queued) a.side.blit;
  vram = a.vram;
}

-- One blit step is one word; the last of a blit is its end. On an idle engine a step does nothing.
unfoldable pub stepped : Adapter → Adapter
stepped a = cond (is_set a.engine.running) (cond (last_step a.engine) (blit_ended (word_drawn a)) (word_drawn a)) a

-- n blit steps, each on what the one before it left.
unfoldable pub steps : ℕ → Adapter → Adapter
steps zero a = a
steps (suc n) a = steps n (stepped a)

-- The store of the next step.
abbrev pub store_now : Adapter → Store
store_now a = drawing a.engine (fetched a.engine a.vram)

-- The mask of the next step, that of its store, after edges and colour test; 0 on an idle engine (document 02, request 2).
unfoldable pub step_mask : Adapter → ℕ
step_mask a = cond (is_set a.engine.running) (store_now a).mask 0

-- The mask of the n-th step from here, counted from 1; of none, 0.
unfoldable pub nth_mask : ℕ → Adapter → ℕ
nth_mask zero a = 0
nth_mask (suc n) a = step_mask (steps n a)

-- The words of a blit: (LINES mod 32,768) + 1 lines of WORDS + 1 words.
unfoldable pub blit_words : BlitRegs → ℕ
blit_words r = (r.lines % 32768 + 1) * (r.words + 1)

-- The words left in an engine's blit: the rest of this line, and the lines after it.
unfoldable pub engine_left : Engine → ℕ
engine_left e = cond (is_set e.running) ((e.regs.words + 1 - e.word) + (e.regs.lines - e.line) * (e.regs.words + 1)) 0

-- The words left in the running and queued blits.
unfoldable pub words_left : Adapter → ℕ
words_left a = engine_left a.engine + cond (is_set a.queued) (blit_words a.side.blit) 0
