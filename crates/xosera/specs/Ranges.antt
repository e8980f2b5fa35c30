-- The ranges of the state, and the state after reset (document 01, "What a call can say").
use Rattle.std.specs.Prelude.{◌≡◌, Bool, true, cond, not, ◌&&◌, ◌||◌, List, [], ◌∷◌, ℕ, ◌≤◌, leb, ltb, eqb, replicate}
use Rattle.xosera.specs.State.{Timer, Host, Beam, State, is_set}
use Rattle.xosera.specs.declared.BlitRegs.{BlitRegs}
use Rattle.xosera.specs.declared.Engine.{Engine}
use Rattle.xosera.specs.Fields.{all_status, copper_enabled}
use Rattle.xosera.specs.Beam.{Frame, frame, program_length, rest}
use Rattle.xosera.specs.Blitter.{no_regs, idle, first_step}

-- Countdown 1 to its interval, or both 0.
unfoldable pub timer_in_range : Timer → Bool
timer_in_range t = leb 1 t.countdown && leb t.countdown t.interval || eqb t.countdown 0 && eqb t.interval 0

-- Bytes are at most 255.
unfoldable pub are_bytes : List ℕ → Bool
are_bytes [] = true
are_bytes (b ∷ bs) = leb b 255 && are_bytes bs

-- Nibble mask at most 15, interrupt mask at most 127, the countdown, and the latches and the saved timer byte, which are bytes.
unfoldable pub host_in_range : Host → Bool
host_in_range h =
    leb h.vram.nibbles 15 && leb h.intmask all_status && timer_in_range h.timer && leb h.timer.saved 255 && are_bytes h.latches

-- The kept shifter word must be 0 only on a blit's first word (document 02, request 4).
unfoldable pub starts_empty : Engine → Bool
starts_empty e = not (first_step e) || eqb e.kept 0

-- Running line and word at most the copied counts, copied lines at most 32,767, and the kept word.
unfoldable pub running_in_range : Engine → Bool
running_in_range e = leb e.line e.regs.lines && leb e.word e.regs.words && leb e.regs.lines 32767 && starts_empty e

-- The same of an engine that runs, by its numbers: it is fit to go on.
pub record Running (e : Engine) : Type 0 where
  pub runs : is_set e.running ≡ true
  pub line-within : e.line ≤ e.regs.lines
  pub word-within : e.word ≤ e.regs.words
  pub lines-within : e.regs.lines ≤ 32767
  pub starts-empty : first_step e ≡ true → e.kept ≡ 0

-- Ten registers that are all 0.
unfoldable pub is_no_regs : BlitRegs → Bool
is_no_regs r =
    eqb r.ctrl 0 && eqb r.andc 0 && eqb r.xor 0 && eqb r.mods 0 && eqb r.srcs 0
    && eqb r.modd 0 && eqb r.dstd 0 && eqb r.shift 0 && eqb r.lines 0 && eqb r.words 0

-- When idle the engine's fields are all 0, the flag, copied registers and kept shifter word included.
unfoldable pub idle_in_range : Engine → Bool
idle_in_range e = eqb e.running 0 && eqb e.line 0 && eqb e.word 0 && eqb e.kept 0 && is_no_regs e.regs

-- Both, by whether the engine runs.
unfoldable pub engine_in_range : Engine → Bool
engine_in_range e = cond (is_set e.running) (running_in_range e) (idle_in_range e)

-- Document 02, request 3: the beam inside the frame.
unfoldable pub beam_in_range : Frame → Beam → Bool
beam_in_range f b = ltb b.line f.lines && ltb b.position f.positions

-- The copper "stopped while bit 15 is clear, at 0 when stopped", and its word inside the program.
unfoldable pub copper_in_range : ℕ → Beam → Bool
copper_in_range ctrl b = cond (is_set b.running) (copper_enabled ctrl && ltb b.word program_length) (eqb b.running 0 && eqb b.word 0)

-- The state within its ranges: status at most 127, queued only while running, and the above. The flag `running` is 1, or 0 by
-- the engine's range, so `queued` is at most 1 too.
unfoldable pub in_range : State → Bool
in_range s =
    host_in_range s.host && leb s.status all_status && leb s.queued s.engine.running && engine_in_range s.engine
    && beam_in_range frame s.beam && copper_in_range s.video.coppctrl s.beam

-- Reset: all 0 but nibble mask 15 and XR_VID_RIGHT 640; beam and copper at rest (document 02, request 3).
abbrev pub reset_state : State
reset_state = record {
  host = record {
    timer = record { count = 0; countdown = 0; interval = 0; saved = 0 };
    xr = record { rdxaddr = record { 0 = 0 }; wrxaddr = record { 0 = 0 }; buffer = 0 };
    vram = record { rdincr = 0; rdaddr = record { 0 = 0 }; wrincr = 0; wraddr = record { 0 = 0 }; buffer = 0; nibbles = 15 };
    intmask = 0;
    latches = replicate 16 0;
  };
  video = record { vidctrl = 0; coppctrl = 0; audctrl = 0; vidleft = 0; vidright = 640; pa = replicate 7 0; pb = replicate 7 0 };
  blit = no_regs;
  beam = rest;
  engine = idle;
  queued = 0;
  status = 0;
}
