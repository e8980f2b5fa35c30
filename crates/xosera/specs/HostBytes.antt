-- The sixteen main registers, a byte at a time (document 01, "Host bytes").
use Rattle.std.specs.Prelude.{Bool, true, false, cond, ◌||◌, List, [], ◌∷◌, ℕ, ◌+◌, ◌*◌, ◌/◌, ◌%◌, eqb, get_or, set}
use Rattle.xosera.specs.State.{Timer, Host, State, is_set}
use Rattle.xosera.specs.Words.{wrap}
use Rattle.xosera.specs.Fields.{int_mask, int_status, wr_mask, Flags, flag_bits}
use Rattle.xosera.specs.Memories.{no_store}
use Rattle.xosera.specs.Beam.{frame, h_blank, v_blank}
use Rattle.xosera.specs.Adapter.{Side, with_host, with_timer, with_xr_port, with_vram_port}
use Rattle.xosera.specs.Adapter.{with_int_mask, with_latches, with_rd_xaddr, with_wr_xaddr, with_nibbles, with_rd_incr, with_rd_addr, with_wr_incr, with_wr_addr}
use Rattle.xosera.specs.Plan.{Act, quiet, unchanged, cleared}
use Rattle.xosera.specs.XrSpace.{xr_read, xr_write}

-- The word of an odd write: the register's latch and the byte.
unfoldable pub word_of : ℕ → ℕ → ℕ
word_of latch byte = latch * 256 + byte

-- An even write only fills the register's own latch, with a byte.
unfoldable pub latched : Host → ℕ → ℕ → Host
latched h r b = with_latches h (set h.latches r (b % 256))

-- The XR read address moves to a, and the XR read buffer is loaded from there.
unfoldable pub xr_loaded : Side → ℕ → Side
xr_loaded s a = with_host s (with_xr_port s.host (with_rd_xaddr s.host.xr a (xr_read s.video s.beam s.xr a)))

-- The VRAM read address moves to a, and the VRAM read buffer is loaded from there.
unfoldable pub vram_load : Side → ℕ → Act
vram_load s a = record {
  side = with_host s (with_vram_port s.host (with_rd_addr s.host.vram a));
  store = no_store;
  load = true;
  start = false;
  status = unchanged;
}

-- 0: a write sets the nibble mask only.
abbrev pub write_sys_ctrl : Side → ℕ → Act
write_sys_ctrl s w = quiet (with_host s (with_vram_port s.host (with_nibbles s.host.vram (wr_mask w))))

-- 1: a write sets the interrupt mask and clears each status bit written as 1.
abbrev pub write_int_ctrl : Side → ℕ → Act
write_int_ctrl s w = record {
  side = with_host s (with_int_mask s.host (int_mask w));
  store = no_store;
  load = false;
  start = false;
  status = cleared (int_status w);
}

-- 2: a write sets the countdown and its interval; 0 stops it.
abbrev pub write_timer : Side → ℕ → Act
write_timer s w = quiet (with_host s (with_timer s.host (record {
  count = s.host.timer.count;
  countdown = w;
  interval = w;
  saved = s.host.timer.saved;
})))

-- 3: a write loads the XR read buffer.
abbrev pub write_rd_xaddr : Side → ℕ → Act
write_rd_xaddr s w = quiet (xr_loaded s w)

-- 4.
abbrev pub write_wr_xaddr : Side → ℕ → Act
write_wr_xaddr s w = quiet (with_host s (with_xr_port s.host (with_wr_xaddr s.host.xr w)))

-- 5: a write stores at 4 and adds 1 to it, also where nothing is stored.
abbrev pub write_xdata : Side → ℕ → Act
write_xdata s w =
    xr_write (with_host s (with_xr_port s.host (with_wr_xaddr s.host.xr (wrap s.host.xr.wrxaddr.0 1)))) s.host.xr.wrxaddr.0 w

-- 6.
abbrev pub write_rd_incr : Side → ℕ → Act
write_rd_incr s w = quiet (with_host s (with_vram_port s.host (with_rd_incr s.host.vram w)))

-- 7: a write loads the VRAM read buffer.
abbrev pub write_rd_addr : Side → ℕ → Act
write_rd_addr s w = vram_load s w

-- 8.
abbrev pub write_wr_incr : Side → ℕ → Act
write_wr_incr s w = quiet (with_host s (with_vram_port s.host (with_wr_incr s.host.vram w)))

-- 9.
abbrev pub write_wr_addr : Side → ℕ → Act
write_wr_addr s w = quiet (with_host s (with_vram_port s.host (with_wr_addr s.host.vram w)))

-- 10, 11: a write stores at 9 under the nibble mask, then adds 8 to 9.
abbrev pub write_data : Side → ℕ → Act
write_data s w = record {
  side = with_host s (with_vram_port s.host (with_wr_addr s.host.vram (wrap s.host.vram.wraddr.0 s.host.vram.wrincr)));
  store = record { mask = s.host.vram.nibbles; addr = s.host.vram.wraddr.0; value = w };
  load = false;
  start = false;
  status = unchanged;
}

-- 12 to 15 ignore the word written.
abbrev pub write_nothing : Side → ℕ → Act
write_nothing s w = quiet s

-- What an odd write does, by register: 0 to 11, then all others.
abbrev pub writes : List (Side → ℕ → Act)
writes =
    write_sys_ctrl ∷ write_int_ctrl ∷ write_timer ∷ write_rd_xaddr ∷ write_wr_xaddr ∷ write_xdata
    ∷ write_rd_incr ∷ write_rd_addr ∷ write_wr_incr ∷ write_wr_addr ∷ write_data ∷ write_data ∷ []

unfoldable pub write_word : ℕ → Side → ℕ → Act
write_word r = get_or writes r write_nothing

-- A byte write.
unfoldable pub write_byte : Side → ℕ → Bool → ℕ → Act
write_byte s r false b = quiet (with_host s (latched s.host r b))
write_byte s r true b = write_word r s (word_of (get_or s.host.latches r 0) b)

-- The words that registers 3 to 11 show; 5, 10 and 11 show the read buffers. 12 to 15 show 0.
unfoldable pub shown : Host → ℕ → ℕ
shown h r =
    get_or (0 ∷ 0 ∷ 0 ∷ h.xr.rdxaddr.0 ∷ h.xr.wrxaddr.0 ∷ h.xr.buffer
    ∷ h.vram.rdincr ∷ h.vram.rdaddr.0 ∷ h.vram.wrincr ∷ h.vram.wraddr.0 ∷ h.vram.buffer ∷ h.vram.buffer ∷ []) r 0

-- The flags of XM_SYS_CTRL: the blitter is full while a blit is queued, and busy while one runs; the blank flags go by the beam.
abbrev pub flags_of : State → Flags
flags_of s = record {
  full = is_set s.queued;
  busy = is_set s.engine.running;
  hblank = h_blank frame s.beam;
  vblank = v_blank s.beam;
}

-- The high byte that an even read gives: of 0 the flags, of 1 the interrupt mask, of 2 the timer's, else of the word shown.
unfoldable pub high_byte : Host → Flags → ℕ → ℕ
high_byte h flags r = get_or (flag_bits flags ∷ h.intmask ∷ h.timer.count / 256 ∷ []) r (shown h r / 256)

-- The low byte that an odd read gives: of 0 the nibble mask, of 1 the interrupt status, of 2 the byte saved by the last
-- even read, else of the word shown.
unfoldable pub low_byte : Host → ℕ → ℕ → ℕ
low_byte h status r =
    get_or (h.vram.nibbles ∷ status ∷ h.timer.saved ∷ []) r (shown h r % 256)

-- An even read of the timer saves its low byte.
unfoldable pub timer_saved : Timer → Timer
timer_saved t = record { count = t.count; countdown = t.countdown; interval = t.interval; saved = t.count % 256 }

-- An odd read of 5 adds 1 to 3 and loads again.
abbrev pub read_xdata : Side → Act
read_xdata s = quiet (xr_loaded s (wrap s.host.xr.rdxaddr.0 1))

-- An odd read of 10 or 11 adds 6 to 7 and loads again.
abbrev pub read_data : Side → Act
read_data s = vram_load s (wrap s.host.vram.rdaddr.0 s.host.vram.rdincr)

-- What a byte read does besides giving its byte: an even one acts only at 2, an odd one at 5, 10 and 11.
unfoldable pub read_byte : Side → ℕ → Bool → Act
read_byte s r false = cond (eqb r 2) (quiet (with_host s (with_timer s.host (timer_saved s.host.timer)))) (quiet s)
read_byte s r true = cond (eqb r 5) (read_xdata s) (cond (eqb r 10 || eqb r 11) (read_data s) (quiet s))
