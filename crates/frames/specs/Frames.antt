-- What request 3 of document 02 says beyond the single beam step, as claims about the definitions: whole frames, and a copper that is
-- stopped. They are proved in crates/frames/proofs.
use Rattle.std.specs.Prelude.{◌≡◌, true, false, cond, ◌&&◌, List, ℕ, suc, ◌*◌, ◌/◌, ◌%◌, ◌<◌, ◌≤◌, leb, eqb, get_or, replicate}
use Rattle.std.specs.Int.Bits.{bit_or}
use Rattle.xosera.specs.State.{Beam, is_set}
use Rattle.xosera.specs.Fields.{frame_ended, copper_enabled}
use Rattle.xosera.specs.Beam.{Frame, frame, visible_lines, beam_moved, reaches, copper_stopped, rest}
use Rattle.xosera.specs.Adapter.{Side, Adapter, with_beam}
use Rattle.xosera.specs.XrSpace.{xr_write}
use Rattle.xosera.specs.HostBytes.{word_of}
use Rattle.xosera.specs.Events.{Event, write, beam, call}
use Rattle.calls.specs.Refusals.{Fit, refusal}
use Rattle.calls.specs.Calls.{after}
use Rattle.calls.specs.Sequences.{after_all}

-- n beam steps.
abbrev pub beams : ℕ → List Event
beams n = replicate n (call beam)

-- The steps of a frame.
abbrev pub frame_steps : Frame → ℕ
frame_steps f = f.lines * f.positions

-- Where a beam is n steps after rest, the copper stopped.
abbrev pub place_after : Frame → ℕ → Beam
place_after f n = record { line = n / f.positions % f.lines; position = n % f.positions; running = 0; word = 0 }

-- An adapter with another beam and status, all else as it was.
abbrev pub with_scan : Adapter → Beam → ℕ → Adapter
with_scan a b status = record { side = with_beam a.side b; status = status; queued = a.queued; engine = a.engine; vram = a.vram }

-- The adapter with its beam moved by a step, and the frame end: no word of a memory changes, nor any other part of the state.
abbrev pub beam_alone : Adapter → Adapter
beam_alone a =
    let b = beam_moved frame a.side.beam in
    with_scan a b (cond (reaches visible_lines b) (bit_or a.status frame_ended) a.status)

-- An adapter at rest with the copper off.
pub record RestingDisabled (a : Adapter) : Type 0 where
  pub fit : Fit a
  pub rests : a.side.beam ≡ rest
  pub disabled : copper_enabled a.side.video.coppctrl ≡ false

-- From there: "a frame has 420,000 steps and … returns to rest, with status bit 4 set on exactly one of them".
pub record WholeFrame (a : Adapter) : Type 0 where
  -- After n steps of a frame the beam is n positions on, and status bit 4 is set from step 384,000 on, which reaches line 480.
  pub scanned : (n : ℕ) → n ≤ frame_steps frame
      → after_all a (beams n) ≡ with_scan a (place_after frame n) (cond (leb 384000 n) (bit_or a.status frame_ended) a.status)
  -- That step sets the bit, and no other step of the frame changes the status.
  pub once : (n : ℕ) → n < frame_steps frame → let b = after_all a (beams n) in
      (after_all a (beams (suc n))).status ≡ cond (eqb (suc n) 384000) (bit_or b.status frame_ended) b.status
  -- A frame later all is as it was, but for status bit 4.
  pub returns : after_all a (beams (frame_steps frame)) ≡ with_scan a rest (bit_or a.status frame_ended)

pub record BeamAndCopper : Type 0 where
  pub frame-steps : frame_steps frame ≡ 420000
  -- Of a frame of any size: a beam that was at rest n steps ago moves on to where it is one step later, and a frame's steps lead back.
  pub frame-returns : (f : Frame) → 0 < f.positions → 0 < f.lines → place_after f (frame_steps f) ≡ rest
  pub moves-on : (f : Frame) → 0 < f.positions → 0 < f.lines → (n : ℕ) → beam_moved f (place_after f n) ≡ place_after f (suc n)
  pub whole-frame : (a : Adapter) → RestingDisabled a → WholeFrame a
  -- A stopped copper that is not started does nothing: it changes no XR word.
  pub stopped-copper : (a : Adapter) → Fit a → is_set a.side.beam.running ≡ false
      → reaches 0 (beam_moved frame a.side.beam) && copper_enabled a.side.video.coppctrl ≡ false → after a (call beam) ≡ beam_alone a
  pub disabled-copper : (a : Adapter) → Fit a → copper_enabled a.side.video.coppctrl ≡ false → after a (call beam) ≡ beam_alone a
  -- A beam step leaves the state in range and both memories at their lengths, every VRAM word, and the main registers.
  pub keeps-fit : (a : Adapter) → Fit a → Fit (after a (call beam))
  pub leaves-vram : (a : Adapter) → (after a (call beam)).vram ≡ a.vram
  pub leaves-host : (a : Adapter) → (after a (call beam)).side.host ≡ a.side.host
  -- A write to XR_COPP_CTRL, the host's or the copper's: with bit 15 clear the copper stops at once, back at 0; with bit 15 set it is left
  -- as it is.
  pub write-stops : (s : Side) (w : ℕ) → (xr_write s 0x01 w).side.beam ≡ cond (copper_enabled w) s.beam (copper_stopped s.beam)
  pub host-stops : (a : Adapter) (b : ℕ) → refusal a (call (write 5 true b)) ≡ 0 → a.side.host.xr.wrxaddr.0 ≡ 0x01
      → (after a (call (write 5 true b))).side.beam ≡
      cond (copper_enabled (word_of (get_or a.side.host.latches 5 0) b)) a.side.beam (copper_stopped a.side.beam)
