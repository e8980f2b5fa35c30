-- A frame's steps one after another, and what a stopped copper leaves alone.
use mathlib.Core.Path.{◌≡◌, refl, sym, ap, subst, ◌∙◌}
use mathlib.Core.Bool.{Bool, true, false, cond, not, ◌&&◌, and-eq-true_iff, and-false}
use mathlib.Core.List.{List, [], ◌∷◌}
use Prim.Native.Nat.{ℕ, zero, suc, ◌+◌, ◌/◌, ◌%◌, ◌<◌, ◌≤◌}
use native.Mathlib.Omega.{arith}
use native.Mathlib.Decide.{ℕ_discrete, dec_lt}
use lib.Bits.{bit_or}
use lib.Dec.{eqb, leb}
use lib.ListN.{get_or, replicate}
use borrow.Author.Tests.{eq-eqb, ne_eqb, le-leb, lt-leb}
use Rattle.xosera.specs.State.{Host, Beam, is_set}
use Rattle.xosera.specs.Fields.{frame_ended, copper_enabled, opcode}
use Rattle.xosera.specs.Beam.{Frame, frame, visible_lines, beam_moved, reaches, copper_stopped}
use Rattle.xosera.specs.Memories.{stored}
use Rattle.xosera.specs.Adapter.{Side, Adapter, state_of}
use Rattle.xosera.specs.Plan.{unchanged, raised, changed, Act, perform}
use Rattle.xosera.specs.XrSpace.{is_blit_register, beam_write, xr_write}
use Rattle.xosera.specs.Copper.{position_reached, copper_at, wait, move, pass, instructions, program_at, instruction, arrived, copper_acts, beam_step}
use Rattle.xosera.specs.HostBytes.{word_of, write_word, write_byte}
use Rattle.xosera.specs.Events.{Event, write, beam, call}
use Rattle.calls.specs.Refusals.{Fit, refusal}
use Rattle.xosera.specs.Acts.{act_of, done}
use Rattle.calls.specs.Calls.{after}
use Rattle.calls.specs.Sequences.{after_all}
use Rattle.xosera.proofs.Branches.{cond_either, clash, not-passed}
use Rattle.xosera.proofs.Tables.{◌and◌, get_or-each}
use Rattle.xosera.proofs.RangeLaws.{in-range-copper}
use Rattle.xosera.proofs.BeamLaws.{stopped-step, disabled-stopped}
use Rattle.calls.proofs.AfterLaws.{after-fit}
use Rattle.xosera.proofs.PlanLaws.{Fits, act-fits, performed-side, performed-vram}
use Rattle.calls.proofs.FitLaws.{after-beam}
use Rattle.frames.specs.Frames.{beams, place_after, with_scan, beam_alone, RestingDisabled, WholeFrame, BeamAndCopper}
use Rattle.frames.proofs.FrameLaws.{moves-on, frame-returns}

-- Moving the beam leaves the copper's flag.
moved-copper : (f : Frame) (b : Beam) → is_set (beam_moved f b).running ≡ is_set b.running
unfolding beam_moved
moved-copper f b = refl

-- The status changed by a choice is the choice of the changed ones.
raised-if : (ends : Bool) (t : ℕ) → changed (cond ends (raised frame_ended) unchanged) t ≡ cond ends (bit_or t frame_ended) t
unfolding changed
raised-if true t = refl
raised-if false t = refl

module _ (a : Adapter) (fit : Fit a) where
  stopped-copper : is_set a.side.beam.running ≡ false
      → reaches 0 (beam_moved frame a.side.beam) && copper_enabled a.side.video.coppctrl ≡ false → after a (call beam) ≡ beam_alone a
  unfolding perform stored arrived
  stopped-copper off none =
      after-beam a fit ∙ ap (λ (p : Act). perform p a) (stopped-step (is_set a.queued) a.side still)
      ∙ rw (none, raised-if (reaches visible_lines (beam_moved frame a.side.beam)) a.status)
    where
      still : is_set (arrived a.side).beam.running ≡ false
      still = rw none (moved-copper frame a.side.beam ∙ off)

  disabled-copper : copper_enabled a.side.video.coppctrl ≡ false → after a (call beam) ≡ beam_alone a
  disabled-copper off =
      stopped-copper (disabled-stopped a.side.video.coppctrl a.side.beam off (in-range-copper (state_of a) fit.state))
      (not-passed _ (λ e. clash (simp and-eq-true_iff at e).1 off))

-- One event again and again: the last may as well be counted first. All of it stays fit.
again : (e : Event) (n : ℕ) (a : Adapter) → after_all a (replicate (suc n) e) ≡ after (after_all a (replicate n e)) e
unfolding after_all
again e zero a = refl
again e (suc n) a = again e n (after a e)

all_fit : (es : List Event) (a : Adapter) → Fit a → Fit (after_all a es)
unfolding after_all
all_fit [] a fit = fit
all_fit (e ∷ es) a fit = all_fit es (after a e) (after-fit a e fit)

-- Of a frame's steps the one that reaches line 480.
reaches-at : (n : ℕ) → n ≤ 420000 → reaches visible_lines (place_after frame n) ≡ eqb n 384000
unfolding reaches
reaches-at n h = go (ℕ_discrete n 384000) (ℕ_discrete (n % 800) 0)
  where
    go : Dec (n ≡ 384000) → Dec (n % 800 ≡ 0) → eqb (n / 800 % 525) 480 && eqb (n % 800) 0 ≡ eqb n 384000
    go (yes e) d = rw e refl
    go (no d) (yes z) =
        rw (ne_eqb n 384000 d, ne_eqb (n / 800 % 525) 480 (λ e. d (omega (arith, e, z, h))))
    go (no d) (no z) = rw (ne_eqb n 384000 d, ne_eqb (n % 800) 0 z) (and-false (eqb (n / 800 % 525) 480))

-- The status on the way.
unfoldable ended_by : ℕ → ℕ → ℕ
ended_by status n = cond (leb 384000 n) (bit_or status frame_ended) status

ended-on : (status n : ℕ) → cond (eqb (suc n) 384000) (bit_or (ended_by status n) frame_ended) (ended_by status n) ≡ ended_by status (suc n)
unfolding ended_by
ended-on status n = go (ℕ_discrete (suc n) 384000) (dec_lt n 384000)
  where
    go : Dec (suc n ≡ 384000) → Dec (n < 384000)
        → cond (eqb (suc n) 384000) (bit_or (ended_by status n) frame_ended) (ended_by status n) ≡ ended_by status (suc n)
    go (yes e) d = rw (eq-eqb (suc n) 384000 e, lt-leb 384000 n (omega (arith, e)), le-leb 384000 (suc n) (omega (arith, e)))
    go (no d) (yes l) = rw (ne_eqb (suc n) 384000 d, lt-leb 384000 n l, lt-leb 384000 (suc n) (omega (arith, l, d)))
    go (no d) (no m) = rw (ne_eqb (suc n) 384000 d, le-leb 384000 n (omega (arith, m)), le-leb 384000 (suc n) (omega (arith, m)))

module _ (a : Adapter) (r : RestingDisabled a) where
  abbrev there : ℕ → Adapter
  there n = with_scan a (place_after frame n) (ended_by a.status n)

  scanned : (n : ℕ) → n ≤ 420000 → after_all a (beams n) ≡ there n
  unfolding after_all ended_by
  scanned zero h = λ i. with_scan a (r.rests i) a.status
  scanned (suc n) h =
      let before = scanned n (omega arith) in
      let fit = subst Fit before (all_fit (beams n) a r.fit) in
      again (call beam) n a ∙ ap (λ (b : Adapter). after b (call beam)) before ∙ disabled-copper (there n) fit r.disabled
      ∙ rw (moves-on frame (omega arith) (omega arith) n, reaches-at (suc n) h, ended-on a.status n)

  once : (n : ℕ) → n < 420000 → (after_all a (beams (suc n))).status ≡
      cond (eqb (suc n) 384000) (bit_or (after_all a (beams n)).status frame_ended) (after_all a (beams n)).status
  once n h = rw (scanned (suc n) h, scanned n (omega arith)) (sym (ended-on a.status n))

  whole-frame : WholeFrame a
  unfolding ended_by
  whole-frame = record { scanned = scanned; once = once; returns = scanned 420000 (omega arith) }

write-stops : (s : Side) (w : ℕ) → (xr_write s 0x01 w).side.beam ≡ cond (copper_enabled w) s.beam (copper_stopped s.beam)
unfolding xr_write beam_write
write-stops s w = go (copper_enabled w)
  where
    go : (on : Bool) → cond (not on) (copper_stopped s.beam) s.beam ≡ cond on s.beam (copper_stopped s.beam)
    go true = refl
    go false = refl

host-stops : (a : Adapter) (b : ℕ) → refusal a (call (write 5 true b)) ≡ 0 → a.side.host.xr.wrxaddr.0 ≡ 0x01
    → (after a (call (write 5 true b))).side.beam ≡
    cond (copper_enabled (word_of (get_or a.side.host.latches 5 0) b)) a.side.beam (copper_stopped a.side.beam)
unfolding after done act_of write_byte write_word xr_write beam_write perform
host-stops a b ok one = rw (ok, one) (write-stops a.side (word_of (get_or a.side.host.latches 5 0) b))

-- A beam step is no access: the main registers stay, whatever the copper does.
module _ (host : Host) where
  abbrev Keeps : Act → Type 0
  Keeps p = p.side.host ≡ host

  move-keeps : (full : Bool) (s : Side) (a w : ℕ) → s.host ≡ host → Keeps (move full s a w)
  unfolding move xr_write copper_at
  move-keeps full s a w e = cond_either Keeps (full && is_blit_register a) _ _ e e

  wait-keeps : (full : Bool) (s : Side) (first second : ℕ) → s.host ≡ host → Keeps (wait full s first second)
  unfolding copper_at
  wait-keeps full s first second e = cond_either (λ (t : Side). t.host ≡ host) (position_reached false frame s.beam first second) _ _ e e

  instruction-keeps : (full : Bool) (s : Side) → s.host ≡ host → Keeps (instruction full s)
  unfolding instruction copper_at
  instruction-keeps full s e =
      let first = program_at s.xr s.beam.word in
      let second = program_at s.xr (s.beam.word + 1) in
      get_or-each (λ (_ : ℕ) (f : Bool → Side → ℕ → ℕ → Act). Keeps (f full s first second)) pass instructions
      (wait-keeps full s first second e and e and e and move-keeps full s _ _ e and move-keeps full s _ _ e and move-keeps full s _ _ e
      and move-keeps full s _ _ e and tt) (λ _ _. e) (opcode first)

same-host : (full : Bool) (s : Side) → (beam_step full s).side.host ≡ s.host
unfolding beam_step arrived copper_acts
same-host full s =
    cond_either (Keeps s.host) (is_set (arrived s).beam.running) _ _ (instruction-keeps s.host full (arrived s) refl) refl

module _ (a : Adapter) where
  abbrev act : Act
  act = beam_step (is_set a.queued) a.side

  after-either : (P : Adapter → Type 0) → P (perform act a) → P a → P (after a (call beam))
  unfolding after done act_of
  after-either P p q = cond_either P (eqb (refusal a (call beam)) 0) (perform act a) a p q

  fits : Fits a.side act
  unfolding act_of
  fits = act-fits a beam

  leaves-host : (after a (call beam)).side.host ≡ a.side.host
  unfolding beam_step
  leaves-host =
      after-either (λ (b : Adapter). b.side.host ≡ a.side.host)
      (ap (λ (s : Side). s.host) (performed-side act a fits) ∙ same-host (is_set a.queued) a.side) refl

  leaves-vram : (after a (call beam)).vram ≡ a.vram
  unfolding beam_step stored
  leaves-vram = after-either (λ (b : Adapter). b.vram ≡ a.vram) (performed-vram act a fits) refl

pub beam-and-copper : BeamAndCopper
beam-and-copper = record {
  frame-steps = refl;
  frame-returns = frame-returns;
  moves-on = moves-on;
  whole-frame = whole-frame;
  stopped-copper = stopped-copper;
  disabled-copper = disabled-copper;
  keeps-fit = λ a fit. after-fit a (call beam) fit;
  leaves-vram = leaves-vram;
  leaves-host = leaves-host;
  write-stops = write-stops;
  host-stops = host-stops;
}
