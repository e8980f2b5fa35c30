-- The extended (XR) space (document 01, "The XR space").
use Rattle.std.specs.Prelude.{Bool, false, cond, not, ◌&&◌, List, [], ◌∷◌, ℕ, ◌+◌, ◌-◌, leb, ltb, eqb, get_or, set}
use Rattle.xosera.specs.State.{Video, Beam}
use Rattle.xosera.specs.Fields.{frame_ended, copper_enabled}
use Rattle.xosera.specs.declared.BlitRegs.{BlitRegs}
use Rattle.xosera.specs.Memories.{no_store}
use Rattle.xosera.specs.Beam.{copper_stopped}
use Rattle.xosera.specs.Adapter.{Side}
use Rattle.xosera.specs.Plan.{Act, unchanged, raised}

-- Whether an address is one of the n from `base` on.
unfoldable pub within : ℕ → ℕ → ℕ → Bool
within base n a = leb base a && ltb a (base + n)

-- The blitter's registers, 0x40 to 0x49; writing the last starts a blit.
unfoldable pub is_blit_register : ℕ → Bool
is_blit_register a = within 0x40 10 a

-- A playfield's registers: LINE_ADDR, its sixth, reads as 0.
unfoldable pub playfield_read : List ℕ → ℕ → ℕ
playfield_read p i = cond (eqb i 5) 0 (get_or p i 0)

-- The registers from 0x00 on; 0x03, XR_SCANLINE, "now reads the line number" of the beam (document 02, request 3).
abbrev pub low_registers : Video → Beam → List ℕ
low_registers v b = v.vidctrl ∷ v.coppctrl ∷ v.audctrl ∷ b.line ∷ v.vidleft ∷ v.vidright ∷ []

-- The registers that read: 0x00 to 0x05, 0x10 to 0x16 but 0x15, 0x18 to 0x1E but 0x1D. All else reads 0.
unfoldable pub register_read : Video → Beam → ℕ → ℕ
register_read v b a =
    cond (within 0x10 7 a) (playfield_read v.pa (a - 0x10))
    (cond (within 0x18 7 a) (playfield_read v.pb (a - 0x18))
    (get_or (low_registers v b) a 0))

-- A read anywhere in the XR space: tile memory at 0x4000, colour at 0x8000, copper at 0xC000, else a register.
unfoldable pub xr_read : Video → Beam → List ℕ → ℕ → ℕ
xr_read v b xr a =
    cond (within 0x4000 5120 a) (get_or xr (a - 0x4000) 0)
    (cond (within 0x8000 512 a) (get_or xr (5120 + (a - 0x8000)) 0)
    (cond (within 0xC000 1024 a) (get_or xr (5632 + (a - 0xC000)) 0)
    (register_read v b a)))

-- A register at its own address takes the word; any other stays.
unfoldable pub put : ℕ → ℕ → ℕ → ℕ → ℕ
put at a w old = cond (eqb a at) w old

-- The stored registers below 0x20 after a write. A write to any other address changes none.
unfoldable pub video_write : Video → ℕ → ℕ → Video
video_write v a w = record {
  vidctrl = put 0x00 a w v.vidctrl;
  coppctrl = put 0x01 a w v.coppctrl;
  audctrl = put 0x02 a w v.audctrl;
  vidleft = put 0x04 a w v.vidleft;
  vidright = put 0x05 a w v.vidright;
  pa = cond (within 0x10 7 a) (set v.pa (a - 0x10) w) v.pa;
  pb = cond (within 0x18 7 a) (set v.pb (a - 0x18) w) v.pb;
}

-- The blitter's ten registers after a write, in the order CTRL ANDC XOR MOD_S SRC_S MOD_D DST_D SHIFT LINES WORDS.
unfoldable pub blit_write : BlitRegs → ℕ → ℕ → BlitRegs
blit_write r a w = record {
  ctrl = put 0x40 a w r.ctrl;
  andc = put 0x41 a w r.andc;
  xor = put 0x42 a w r.xor;
  mods = put 0x43 a w r.mods;
  srcs = put 0x44 a w r.srcs;
  modd = put 0x45 a w r.modd;
  dstd = put 0x46 a w r.dstd;
  shift = put 0x47 a w r.shift;
  lines = put 0x48 a w r.lines;
  words = put 0x49 a w r.words;
}

-- XR memory after a write. A write outside the three parts changes none of it.
unfoldable pub xr_memory_write : List ℕ → ℕ → ℕ → List ℕ
xr_memory_write xr a w =
    cond (within 0x4000 5120 a) (set xr (a - 0x4000) w)
    (cond (within 0x8000 512 a) (set xr (5120 + (a - 0x8000)) w)
    (cond (within 0xC000 1024 a) (set xr (5632 + (a - 0xC000)) w)
    xr))

-- The copper after a write: at 0x01, XR_COPP_CTRL, clearing bit 15 "stops it at once, back at 0" (document 02, request 3). Setting it
-- starts nothing.
unfoldable pub beam_write : Beam → ℕ → ℕ → Beam
beam_write b a w = cond (eqb a 0x01 && not (copper_enabled w)) (copper_stopped b) b

-- A write anywhere in the XR space, by the host or by the copper: a register or memory at the address takes the whole word, the
-- nibble mask does not apply. 0x03 sets status bit 4, 0x49 also starts or queues a blit, 0x01 may stop the copper.
unfoldable pub xr_write : Side → ℕ → ℕ → Act
xr_write s a w = record {
  side = record {
    host = s.host;
    video = video_write s.video a w;
    blit = blit_write s.blit a w;
    beam = beam_write s.beam a w;
    xr = xr_memory_write s.xr a w;
  };
  store = no_store;
  load = false;
  start = eqb a 0x49;
  status = cond (eqb a 0x03) (raised frame_ended) unchanged;
}
