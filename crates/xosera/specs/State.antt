-- The adapter's state by name, and the 16-bit words that stand for it. A flag is 1 or 0. The ranges of the fields are in Ranges.
use Rattle.std.specs.Prelude.{Bool, List, [], ◌∷◌, ◌++◌, ℕ, zero, suc, ◌+◌, eqb, get_or}
use Rattle.xosera.specs.declared.VramAddr.{VramAddr}
use Rattle.xosera.specs.declared.XrAddr.{XrAddr}
use Rattle.xosera.specs.declared.BlitRegs.{BlitRegs}
use Rattle.xosera.specs.declared.Engine.{Engine}

-- XM_TIMER: the timer, the countdown with its interval, and the low byte that an even read saved.
pub record Timer : Type 0 where
  pub count : ℕ
  pub countdown : ℕ
  pub interval : ℕ
  pub saved : ℕ

-- XM_RD_XADDR, XM_WR_XADDR and the read buffer of XM_XDATA.
pub record XrPort : Type 0 where
  pub rdxaddr : XrAddr
  pub wrxaddr : XrAddr
  pub buffer : ℕ

-- XM_RD_INCR to XM_WR_ADDR, the read buffer of XM_DATA and the nibble mask.
pub record VramPort : Type 0 where
  pub rdincr : ℕ
  pub rdaddr : VramAddr
  pub wrincr : ℕ
  pub wraddr : VramAddr
  pub buffer : ℕ
  pub nibbles : ℕ

-- The main registers, the interrupt status apart; a latch for each of the sixteen.
pub record Host : Type 0 where
  pub latches : List ℕ
  pub xr : XrPort
  pub vram : VramPort
  pub timer : Timer
  pub intmask : ℕ

-- The stored registers of the XR space: 0x00 to 0x05 but 0x03, which is not stored, and seven each from 0x10 and 0x18 on for
-- the two playfields.
pub record Video : Type 0 where
  pub vidctrl : ℕ
  pub coppctrl : ℕ
  pub audctrl : ℕ
  pub vidleft : ℕ
  pub vidright : ℕ
  pub pa : List ℕ
  pub pb : List ℕ

-- The video beam and the copper (document 02, request 3): the line and the position on it where the beam is, from 0; whether the
-- copper runs, a flag; and the word of its program that comes next.
pub record Beam : Type 0 where
  pub line : ℕ
  pub position : ℕ
  pub running : ℕ
  pub word : ℕ

-- The whole state. `queued` is a flag, as is `running` of the engine.
pub record State : Type 0 where
  pub host : Host
  pub queued : ℕ
  pub status : ℕ
  pub engine : Engine
  pub video : Video
  pub blit : BlitRegs
  pub beam : Beam

-- Whether a flag is set.
abbrev pub is_set : ℕ → Bool
is_set flag = eqb flag 1

-- The words of a state.
abbrev pub state_words : ℕ
state_words = 79

-- n words from a place on.
abbrev pub words_from : ℕ → ℕ → (ℕ → ℕ) → List ℕ
words_from zero at word = []
words_from (suc n) at word = word at ∷ words_from n (suc at) word

-- Ten blitter registers from a place on, in the order of their addresses.
abbrev pub regs_from : ℕ → (ℕ → ℕ) → BlitRegs
regs_from at word = record {
  ctrl = word at;
  andc = word (at + 1);
  xor = word (at + 2);
  mods = word (at + 3);
  srcs = word (at + 4);
  modd = word (at + 5);
  dstd = word (at + 6);
  shift = word (at + 7);
  lines = word (at + 8);
  words = word (at + 9);
}

-- The state by its words: which word stands for which field.
abbrev pub state_by : (ℕ → ℕ) → State
state_by word = record {
  host = record {
    latches = words_from 16 0 word;
    xr = record { rdxaddr = record { 0 = word 16 }; wrxaddr = record { 0 = word 17 }; buffer = word 18 };
    vram = record {
      rdincr = word 19;
      rdaddr = record { 0 = word 20 };
      wrincr = word 21;
      wraddr = record { 0 = word 22 };
      buffer = word 23;
      nibbles = word 24;
    };
    timer = record { count = word 25; countdown = word 26; interval = word 27; saved = word 28 };
    intmask = word 29;
  };
  queued = word 30;
  status = word 31;
  engine = record { running = word 32; line = word 33; word = word 34; kept = word 35; regs = regs_from 36 word };
  video = record {
    vidctrl = word 46;
    coppctrl = word 47;
    audctrl = word 48;
    vidleft = word 49;
    vidright = word 50;
    pa = words_from 7 51 word;
    pb = words_from 7 58 word;
  };
  blit = regs_from 65 word;
  beam = record { line = word 75; position = word 76; running = word 77; word = word 78 };
}

-- The word at a place.
abbrev pub word_at : List ℕ → ℕ → ℕ
word_at ws k = get_or ws k 0

-- The state that words stand for.
unfoldable pub state_at : List ℕ → State
state_at ws = state_by (word_at ws)

-- The words of ten registers.
unfoldable pub reg_words : BlitRegs → List ℕ
reg_words r =
    r.ctrl ∷ r.andc ∷ r.xor ∷ r.mods ∷ r.srcs ∷ r.modd ∷ r.dstd ∷ r.shift ∷ r.lines ∷ r.words ∷ []

-- The words of beam and copper.
unfoldable pub beam_words : Beam → List ℕ
beam_words b = b.line ∷ b.position ∷ b.running ∷ b.word ∷ []

-- All words of a state but those of beam and copper, in their order: its fields one after another. A saved file has these (document 02,
-- request 1).
unfoldable pub register_words : State → List ℕ
register_words s =
    let h = s.host in
    let v = s.video in
    let e = s.engine in
    h.latches ++ (h.xr.rdxaddr.0 ∷ h.xr.wrxaddr.0 ∷ h.xr.buffer ∷ [])
    ++ (h.vram.rdincr ∷ h.vram.rdaddr.0 ∷ h.vram.wrincr ∷ h.vram.wraddr.0 ∷ h.vram.buffer ∷ h.vram.nibbles ∷ [])
    ++ (h.timer.count ∷ h.timer.countdown ∷ h.timer.interval ∷ h.timer.saved ∷ h.intmask ∷ s.queued ∷ s.status ∷ [])
    ++ (e.running ∷ e.line ∷ e.word ∷ e.kept ∷ []) ++ reg_words e.regs
    ++ (v.vidctrl ∷ v.coppctrl ∷ v.audctrl ∷ v.vidleft ∷ v.vidright ∷ []) ++ v.pa ++ v.pb ++ reg_words s.blit

-- All words of a state.
unfoldable pub laid_out : State → List ℕ
laid_out s = register_words s ++ beam_words s.beam
