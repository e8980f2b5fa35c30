-- Worked examples of host bytes, the XR space and the ranges, of what the bench table does not tell apart. No event in them is refused.
use Rattle.std.specs.Prelude.{◌≡◌, true, false, cond, List, [], ◌∷◌, ◌++◌, map, ℕ, zero, suc, replicate}
use Rattle.xosera.specs.Words.{wrap}
use Rattle.xosera.specs.Fields.{is_reconfigure, colour_base, is_blank, is_bitmap, pixel_depth, h_repeat, v_repeat}
use Rattle.xosera.specs.Memories.{is_vram_length, is_xr_length, from_right, bad_pixel}
use Rattle.xosera.specs.Adapter.{Adapter, state_of, with_timer, with_latches}
use Rattle.xosera.specs.Beam.{rest}
use Rattle.xosera.specs.Blitter.{no_regs}
use Rattle.xosera.specs.XrSpace.{is_blit_register}
use Rattle.xosera.specs.Events.{Event, write, read, tick, beam, line, call}
use Rattle.xosera.specs.Ranges.{in_range, reset_state}
use Rattle.xosera.specs.Acts.{all_done, all_given}
use Rattle.xosera.specs.Sessions.{set_word, set_xr, read_word, bench, seen, values_of, masks_of}
use Rattle.xosera.specs.BlitExamples.{two_blits}

-- An adapter with a latch, a saved timer byte and the two flags of any size; the engine's other fields are 0.
abbrev pub flagged : ℕ → ℕ → ℕ → ℕ → Adapter
flagged latch saved queued running = record {
  side = record {
    host = with_timer (with_latches reset_state.host (replicate 16 latch)) (record { count = 0; countdown = 0; interval = 0; saved = saved });
    video = reset_state.video;
    blit = no_regs;
    beam = rest;
    xr = replicate 6656 0;
  };
  status = 0;
  queued = queued;
  engine = record { running = running; line = 0; word = 0; kept = 0; regs = no_regs };
  vram = replicate 256 0xFFFF;
}

-- n words written to XM_XDATA, one more each time, and the low bytes of n words read there from an address on.
abbrev pub numbered : ℕ → ℕ → List Event
numbered zero w = []
numbered (suc n) w = set_word 5 w ++ numbered n (suc w)

abbrev pub read_back : ℕ → ℕ → Adapter → List ℕ
read_back at n a = values_of (all_given (all_done a (set_word 3 at)) (replicate n (call (read 5 true))))

abbrev pub registers_numbered : Adapter
registers_numbered = all_done (bench []) (set_word 4 0 ++ numbered 32 1)

-- A word written to VRAM with all nibbles held back.
abbrev pub masked_write : Adapter
masked_write = all_done (bench []) (set_word 0 0 ++ set_word 8 1 ++ set_word 11 0x1234)

-- A word in each of the first and last places of the three XR memories, and one behind each memory.
abbrev pub xr_filled : Adapter
xr_filled =
    all_done (bench []) (set_xr 0x4000 1 ++ set_xr 0x53FF 2 ++ set_word 5 3 ++ set_xr 0x8000 4 ++ set_xr 0x81FF 5 ++ set_word 5 6
    ++ set_xr 0xC000 7 ++ set_xr 0xC3FF 8 ++ set_word 5 9)

pub record HostExamples : Type 0 where
  -- Lengths of VRAM and of XR memory; blitter registers; bit 15 written to XM_INT_CTRL: what refusals 1, 2, 5 and 6 look at.
  pub lengths :
      map is_vram_length (128 ∷ 256 ∷ 384 ∷ 65536 ∷ 131072 ∷ []) ++ map is_xr_length (6655 ∷ 6656 ∷ 6657 ∷ [])
      ≡ (false ∷ true ∷ false ∷ true ∷ false ∷ []) ++ (false ∷ true ∷ false ∷ [])
  pub blit_registers : map is_blit_register (0x3F ∷ 0x40 ∷ 0x49 ∷ 0x4A ∷ []) ≡ false ∷ true ∷ true ∷ false ∷ []
  pub reconfigure_bit : map is_reconfigure (0x7FFF ∷ 0x8000 ∷ []) ≡ false ∷ true ∷ []
  -- A nibble's place: the leftmost is bit 3 of a mask; 3 is the last nibble, 255 the last of 256 words.
  pub pixels :
      from_right (record { address = 0; nibble = 0 }) ∷ from_right (record { address = 0; nibble = 3 }) ∷ [] ≡ 3 ∷ 0 ∷ []
  pub no_pixel :
      bad_pixel 256 (record { address = 255; nibble = 3 }) ∷ bad_pixel 256 (record { address = 256; nibble = 3 })
      ∷ bad_pixel 256 (record { address = 255; nibble = 4 }) ∷ [] ≡ false ∷ true ∷ true ∷ []
  -- Sums run past 65,535 to 0 and back.
  pub sums : wrap 0xFFFF 1 ∷ wrap 1 0xFFFE ∷ wrap 1 0xFFFF ∷ [] ≡ 0 ∷ 0xFFFF ∷ 0 ∷ []
  -- Words 1 to 32 written at 0x00 to 0x1F: those that read back, and status bit 4 of 0x03.
  pub registers_read_back :
      read_back 0 32 registers_numbered ++ values_of (all_given registers_numbered (call (read 1 true) ∷ []))
      ≡ (1 ∷ 2 ∷ 3 ∷ 0 ∷ 5 ∷ 6 ∷ []) ++ replicate 10 0 ++ (17 ∷ 18 ∷ 19 ∷ 20 ∷ 21 ∷ 0 ∷ 23 ∷ 0 ∷ 25 ∷ 26 ∷ 27 ∷ 28 ∷ 29 ∷ 0 ∷ 31 ∷ 0 ∷ 0x10 ∷ [])
  -- The blitter's registers read 0.
  pub blitter_reads_zero : read_back 0x40 10 two_blits ≡ replicate 10 0
  -- The XR memories, each at its first and last place and behind it.
  pub xr_memories :
      read_back 0x4000 1 xr_filled ++ read_back 0x53FF 2 xr_filled ++ read_back 0x8000 1 xr_filled ++ read_back 0x81FF 2 xr_filled
      ++ read_back 0xC000 1 xr_filled ++ read_back 0xC3FF 2 xr_filled ≡ 1 ∷ 2 ∷ 0 ∷ 4 ∷ 5 ∷ 0 ∷ 7 ∷ 8 ∷ 0 ∷ []
  -- Latches and the saved timer byte are bytes; a flag is 1 or 0, and a blit is queued only while one runs.
  pub flags_and_bytes :
      map (λ (a : Adapter). in_range (state_of a)) (flagged 255 255 0 0 ∷ flagged 256 0 0 0 ∷ flagged 0 256 0 0 ∷ flagged 0 0 1 1 ∷ flagged 0 0 1 0
      ∷ flagged 0 0 2 1 ∷ flagged 0 0 0 2 ∷ flagged 0 0 2 2 ∷ []) ≡ true ∷ false ∷ false ∷ true ∷ false ∷ false ∷ false ∷ false ∷ []
  -- A write to 0x03 sets bit 4; the line is up when the mask has it too, and down again when it is cleared.
  pub line_up_and_down :
      values_of (all_given (all_done (bench []) (set_xr 3 0))
      (call (read 1 true) ∷ call line ∷ set_word 1 0x1000 ++ call line ∷ set_word 1 0x1010 ++ call line ∷ []))
      ≡ 0x10 ∷ 0 ∷ 0 ∷ 0 ∷ 1 ∷ 0 ∷ 0 ∷ 0 ∷ []
  -- A latch for each register.
  pub latch_each :
      values_of (all_given (all_done (bench []) (call (write 8 false 0x12) ∷ call (write 9 false 0x34) ∷ call (write 8 true 0x56) ∷ [])) (read_word 8))
      ≡ 0x12 ∷ 0x56 ∷ []
  -- Data reads go by RD_INCR; an address is taken modulo the length where memory is touched, not where it is stored.
  pub data_reads :
      values_of (all_given (all_done (bench (0x1234 ∷ 0x5678 ∷ 0x9ABC ∷ [])) (set_word 6 2 ++ set_word 8 1 ++ set_word 7 0x0110))
      (read_word 10 ++ read_word 11 ++ read_word 7)) ≡ 0x12 ∷ 0x34 ∷ 0x9A ∷ 0xBC ∷ 0x01 ∷ 0x14 ∷ []
  -- A word written after it was loaded into the read buffer is read as it was.
  pub loaded_once :
      values_of (all_given (all_done (bench (0x1234 ∷ [])) (set_word 7 0x10 ++ set_word 9 0x10 ++ set_word 10 0x5678)) (read_word 10)) ≡ 0x12 ∷ 0x34 ∷ []
  -- An odd read of the timer gives the byte that the last even read saved, not the count's.
  pub timer_saves :
      values_of (all_given (flagged 0 0x5A 0 0) (call (read 2 true) ∷ call tick ∷ call (read 2 false) ∷ call tick ∷ call (read 2 true) ∷ []))
      ≡ 0x5A ∷ 0 ∷ 0 ∷ 0 ∷ 1 ∷ []
  -- Nibble mask 0 stores nothing and still moves the write address.
  pub mask_zero : seen 0 1 masked_write ++ values_of (all_given masked_write (read_word 9)) ≡ 0xFFFF ∷ 0x00 ∷ 0x01 ∷ []
  -- Masks of writes (document 02, request 2): an odd data write's, at 10 and 11; none of any other, a read, a tick or a beam step.
  pub write_masks :
      masks_of (all_given (bench []) (set_word 0 5 ++ set_word 10 0xFFFF ++ set_word 0 0xFA ++ set_word 11 0))
      ++ masks_of (all_given (bench []) (set_word 9 0xFFFF ++ set_word 5 0xFFFF ++ set_word 12 0xFFFF ++ call (read 10 true) ∷ call tick ∷ call beam ∷ []))
      ≡ (0 ∷ 0 ∷ 0 ∷ 5 ∷ 0 ∷ 0 ∷ 0 ∷ 0xA ∷ []) ++ replicate 9 0
  -- Reset: the beam in left blanking, nibble mask 15, XR_VID_RIGHT 640; 12 to 15 read 0 also when written.
  pub after_reset :
      values_of (all_given (all_done (bench []) (set_word 3 5 ++ set_word 12 0x1234 ++ set_word 15 0x1234))
      (read_word 0 ++ read_word 5 ++ read_word 12 ++ read_word 15)) ≡ 0x08 ∷ 0x0F ∷ 0x02 ∷ 0x80 ∷ 0 ∷ 0 ∷ 0 ∷ 0 ∷ []
  -- The fields of GFX_CTRL 0xFFB6: base, blank, bitmap, depth, repeats.
  pub gfx_fields :
      colour_base 0xFFB6 ∷ cond (is_blank 0xFFB6) 1 0 ∷ cond (is_bitmap 0xFFB6) 1 0 ∷ pixel_depth 0xFFB6 ∷ h_repeat 0xFFB6 ∷ v_repeat 0xFFB6 ∷ []
      ≡ 0xFF ∷ 1 ∷ 0 ∷ 3 ∷ 2 ∷ 3 ∷ []
