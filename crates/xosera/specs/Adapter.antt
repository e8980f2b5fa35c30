-- An adapter: the state with both memories.
use Rattle.std.specs.Prelude.{List, ℕ}
use Rattle.xosera.specs.State.{Timer, XrPort, VramPort, Host, Video, Beam, State, state_at}
use Rattle.xosera.specs.declared.BlitRegs.{BlitRegs}
use Rattle.xosera.specs.declared.Engine.{Engine}

-- The host's side: all that a host access or a beam step changes and no blit step touches.
pub record Side : Type 0 where
  pub host : Host
  pub video : Video
  pub blit : BlitRegs
  pub beam : Beam
  pub xr : List ℕ

-- The host's side, the interrupt status, the blitter and VRAM.
pub record Adapter : Type 0 where
  pub side : Side
  pub status : ℕ
  pub queued : ℕ
  pub engine : Engine
  pub vram : List ℕ

-- The adapter of a state and the two memories lent with it.
abbrev pub adapter : State → List ℕ → List ℕ → Adapter
adapter s vram xr = record {
  side = record { host = s.host; video = s.video; blit = s.blit; beam = s.beam; xr = xr };
  status = s.status;
  queued = s.queued;
  engine = s.engine;
  vram = vram;
}

-- The adapter of the words lent as a state and the two memories lent with them.
abbrev pub adapter_at : List ℕ → List ℕ → List ℕ → Adapter
adapter_at words vram xr = adapter (state_at words) vram xr

-- The state of an adapter.
abbrev pub state_of : Adapter → State
state_of a = record {
  host = a.side.host;
  video = a.side.video;
  blit = a.side.blit;
  beam = a.side.beam;
  engine = a.engine;
  queued = a.queued;
  status = a.status;
}

-- A side with another host.
abbrev pub with_host : Side → Host → Side
with_host s h = record { host = h; video = s.video; blit = s.blit; beam = s.beam; xr = s.xr }

-- A side with another beam.
abbrev pub with_beam : Side → Beam → Side
with_beam s b = record { host = s.host; video = s.video; blit = s.blit; beam = b; xr = s.xr }

-- A host with one part changed.
abbrev pub with_timer : Host → Timer → Host
with_timer h t = record { timer = t; xr = h.xr; vram = h.vram; intmask = h.intmask; latches = h.latches }

abbrev pub with_xr_port : Host → XrPort → Host
with_xr_port h p = record { timer = h.timer; xr = p; vram = h.vram; intmask = h.intmask; latches = h.latches }

abbrev pub with_vram_port : Host → VramPort → Host
with_vram_port h p = record { timer = h.timer; xr = h.xr; vram = p; intmask = h.intmask; latches = h.latches }

abbrev pub with_int_mask : Host → ℕ → Host
with_int_mask h m = record { timer = h.timer; xr = h.xr; vram = h.vram; intmask = m; latches = h.latches }

abbrev pub with_latches : Host → List ℕ → Host
with_latches h l = record { timer = h.timer; xr = h.xr; vram = h.vram; intmask = h.intmask; latches = l }

-- A port with one part changed; the XR read address moves together with the buffer.
abbrev pub with_rd_xaddr : XrPort → ℕ → ℕ → XrPort
with_rd_xaddr p a buffer = record { rdxaddr = record { 0 = a }; wrxaddr = p.wrxaddr; buffer = buffer }

abbrev pub with_wr_xaddr : XrPort → ℕ → XrPort
with_wr_xaddr p a = record { rdxaddr = p.rdxaddr; wrxaddr = record { 0 = a }; buffer = p.buffer }

abbrev pub with_nibbles : VramPort → ℕ → VramPort
with_nibbles p m = record { rdincr = p.rdincr; rdaddr = p.rdaddr; wrincr = p.wrincr; wraddr = p.wraddr; buffer = p.buffer; nibbles = m }

abbrev pub with_rd_incr : VramPort → ℕ → VramPort
with_rd_incr p n = record { rdincr = n; rdaddr = p.rdaddr; wrincr = p.wrincr; wraddr = p.wraddr; buffer = p.buffer; nibbles = p.nibbles }

abbrev pub with_rd_addr : VramPort → ℕ → VramPort
with_rd_addr p a = record { rdincr = p.rdincr; rdaddr = record { 0 = a }; wrincr = p.wrincr; wraddr = p.wraddr; buffer = p.buffer; nibbles = p.nibbles }

abbrev pub with_wr_incr : VramPort → ℕ → VramPort
with_wr_incr p n = record { rdincr = p.rdincr; rdaddr = p.rdaddr; wrincr = n; wraddr = p.wraddr; buffer = p.buffer; nibbles = p.nibbles }

abbrev pub with_wr_addr : VramPort → ℕ → VramPort
with_wr_addr p a = record { rdincr = p.rdincr; rdaddr = p.rdaddr; wrincr = p.wrincr; wraddr = record { 0 = a }; buffer = p.buffer; nibbles = p.nibbles }

abbrev pub with_buffer : VramPort → ℕ → VramPort
with_buffer p b = record { rdincr = p.rdincr; rdaddr = p.rdaddr; wrincr = p.wrincr; wraddr = p.wraddr; buffer = b; nibbles = p.nibbles }
