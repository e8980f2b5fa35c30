-- Whatever a call asks for, and an event that is not refused, keeps the state in its ranges and both memories at their lengths.
use mathlib.Core.Path.{◌≡◌, refl, ◌∙◌, ap}
use mathlib.Core.Bool.{Bool, true, false, ◌&&◌, ◌||◌, and-eq-true_iff}
use mathlib.Core.List.{List}
use Prim.Native.Nat.{ℕ, ◌+◌, ◌-◌, ◌%◌, ◌≤◌}
use native.Mathlib.Omega.{arith}
use lib.Bits.{and_le_l}
use lib.Dec.{eqb}
use lib.ListN.{length, length-set}
use Rattle.xosera.specs.State.{Timer, Video, Beam, is_set}
use Rattle.xosera.specs.Fields.{frame_ended, timer_expired, all_status, copper_enabled, opcode}
use Rattle.xosera.specs.Beam.{frame, visible_lines, beam_moved, reaches}
use Rattle.xosera.specs.declared.BlitRegs.{BlitRegs}
use Rattle.xosera.specs.declared.Engine.{Engine}
use Rattle.xosera.specs.Memories.{stored}
use Rattle.xosera.specs.Adapter.{Side, Adapter, state_of, with_timer}
use Rattle.xosera.specs.Blitter.{launched, started_engine}
use Rattle.xosera.specs.Plan.{StatusChange, unchanged, raised, cleared, changed, Act, quiet, vram_loaded, carried_out, perform}
use Rattle.xosera.specs.XrSpace.{is_blit_register, xr_memory_write, xr_write}
use Rattle.xosera.specs.Copper.{position_reached, copper_at, copper_on, wait, move, pass, instructions, program_at, instruction}
use Rattle.xosera.specs.Copper.{arrived, copper_acts, beam_step}
use Rattle.xosera.specs.HostBytes.{latched, xr_loaded, vram_load, write_word, write_byte, timer_saved, read_byte}
use Rattle.xosera.specs.HostBytes.{write_sys_ctrl, write_int_ctrl, write_timer, write_nothing, writes}
use Rattle.xosera.specs.TimerTick as TimerTick
use Rattle.xosera.specs.TimerTick.{expires}
use Rattle.xosera.specs.Events.{Call, Event, write, read, tick, beam, line, call, step, run}
use Rattle.xosera.specs.Ranges.{host_in_range, engine_in_range, beam_in_range, copper_in_range, in_range}
use Rattle.xosera.specs.Acts.{act_of, done}
use Rattle.xosera.proofs.Branches.{cond_either, cond_cases, cond_same, length-cond}
use Rattle.xosera.proofs.Tables.{◌and◌, get_or-each}
use Rattle.xosera.proofs.EngineLaws.{idle-flag, launched-in-range, stored-length}
use Rattle.xosera.proofs.RangeLaws.{in-range-host, in-range-status, in-range-queue, in-range-engine, in-range-beam, in-range-copper}
use Rattle.xosera.proofs.RangeLaws.{parts-in-range, status-raised}
use Rattle.xosera.proofs.BeamLaws.{beam-facts, beam-of, moved_inside, started-in-range, running-at, write-inside, write-in-range}
use Rattle.xosera.proofs.RangeLaws.{stepped-in-range, steps-in-range, stepped-vram-length, steps-vram-length, stepped-side, steps-side}
use Rattle.xosera.proofs.RangeLaws.{Counts, timer-facts, timer-of, ticked-counts, ticked-saved, host-facts, host-of, set-bytes}

-- What an access asks for, from a side: a host, a beam and a copper in range again, status bits below 128, XR memory as long as it
-- was.
abbrev pub Bounded : StatusChange → Type 0
Bounded unchanged = Unit {0}
Bounded (raised bits) = bits ≤ all_status
Bounded (cleared bits) = Unit {0}

pub record Beyond (s t : Side) : Type 0 where
  pub beam : beam_in_range frame s.beam ≡ true → beam_in_range frame t.beam ≡ true
  pub copper : copper_in_range s.video.coppctrl s.beam ≡ true → copper_in_range t.video.coppctrl t.beam ≡ true
  pub xr : length t.xr ≡ length s.xr

pub record Fits (s : Side) (p : Act) : Type 0 where
  pub host : host_in_range s.host ≡ true → host_in_range p.side.host ≡ true
  pub status : Bounded p.status
  pub beyond : Beyond s p.side

-- All of a side that an access through the main registers leaves.
abbrev behind : Side → Video × (Beam × List ℕ)
behind s = (s.video, (s.beam, s.xr))

-- One after another.
beyond-both : {s t u : Side} → Beyond s t → Beyond t u → Beyond s u
beyond-both f g = record { beam = λ k. g.beam (f.beam k); copper = λ k. g.copper (f.copper k); xr = g.xr ∙ f.xr }

module _ (s : Side) where
  beyond-same : (t : Side) → behind t ≡ behind s → Beyond s t
  beyond-same t e = record {
    beam = λ k. ap (λ (x : Video × (Beam × List ℕ)). beam_in_range frame x.1.0) e ∙ k;
    copper = λ k. ap (λ (x : Video × (Beam × List ℕ)). copper_in_range x.0.coppctrl x.1.0) e ∙ k;
    xr = ap (λ (x : Video × (Beam × List ℕ)). length x.1.1) e;
  }

  -- An access that leaves the nibble mask, the interrupt mask, the countdown, the status and all beyond the host as they are.
  fits : (p : Act) → host_in_range p.side.host ≡ host_in_range s.host → p.status ≡ unchanged → behind p.side ≡ behind s → Fits s p
  fits p h c x = record { host = λ k. h ∙ k; status = rw c tt; beyond = beyond-same _ x }

  timer-fits : (p : Act) → (t : Timer) → (Counts s.host.timer → Counts t) → (s.host.timer.saved ≤ 255 → t.saved ≤ 255)
      → p.side.host ≡ with_timer s.host t → Bounded p.status → behind p.side ≡ behind s → Fits s p
  timer-fits p t f g h b x = record {
    host = λ k.
        let r = host-facts s.host k in
        rw h (host-of (with_timer s.host t) (record {
          nibbles = r.nibbles;
          intmask = r.intmask;
          timer = timer-of t (f (timer-facts s.host.timer r.timer));
          saved = g r.saved;
          latches = r.latches;
        }));
    status = b;
    beyond = beyond-same _ x;
  }

  sys-ctrl-fits : (w : ℕ) → Fits s (write_sys_ctrl s w)
  sys-ctrl-fits w = record {
    host = λ k.
        let r = host-facts s.host k in
        host-of _ (record { nibbles = omega arith; intmask = r.intmask; timer = r.timer; saved = r.saved; latches = r.latches });
    status = tt;
    beyond = beyond-same _ refl;
  }

  int-ctrl-fits : (w : ℕ) → Fits s (write_int_ctrl s w)
  int-ctrl-fits w = record {
    host = λ k.
        let r = host-facts s.host k in
        host-of _ (record { nibbles = r.nibbles; intmask = omega arith; timer = r.timer; saved = r.saved; latches = r.latches });
    status = tt;
    beyond = beyond-same _ refl;
  }

  latch-fits : (r b : ℕ) → Fits s (write_byte s r false b)
  unfolding write_byte latched
  latch-fits r b = record {
    host = λ k.
        let f = host-facts s.host k in
        host-of _ (record {
          nibbles = f.nibbles;
          intmask = f.intmask;
          timer = f.timer;
          saved = f.saved;
          latches = set-bytes s.host.latches r (b % 256) (omega arith) f.latches;
        });
    status = tt;
    beyond = beyond-same _ refl;
  }

  timer-write-fits : (w : ℕ) → Fits s (write_timer s w)
  timer-write-fits w = timer-fits (write_timer s w) _ (λ _. record { within = omega arith; stopped = λ z. z }) (λ k. k) refl tt refl

  xr-write-fits : (t : Side) (a w : ℕ) → host_in_range t.host ≡ host_in_range s.host → Beyond s t → Fits s (xr_write t a w)
  unfolding xr_write xr_memory_write
  xr-write-fits t a w h x = record {
    host = λ k. h ∙ k;
    status = cond_either Bounded (eqb a 0x03) (raised frame_ended) unchanged (omega arith) tt;
    beyond = record {
      beam = λ k. write-inside frame t.beam a w (x.beam k);
      copper = λ k. write-in-range t.video t.beam a w (x.copper k);
      xr = simp (length-cond, length-set, cond_same) x.xr;
    };
  }

  write-fits : (r w : ℕ) → Fits s (write_word r s w)
  unfolding write_word host_in_range vram_load xr_loaded
  write-fits r w =
      get_or-each (λ (_ : ℕ) (f : Side → ℕ → Act). Fits s (f s w)) write_nothing writes
      (sys-ctrl-fits w and int-ctrl-fits w and timer-write-fits w and fits _ refl refl refl and fits _ refl refl refl
      and xr-write-fits _ _ w refl (beyond-same _ refl) and fits _ refl refl refl and fits _ refl refl refl and fits _ refl refl refl
      and fits _ refl refl refl and fits _ refl refl refl and fits _ refl refl refl and tt) (λ _ _. fits _ refl refl refl) r

  write-byte-fits : (r : ℕ) (odd : Bool) (b : ℕ) → Fits s (write_byte s r odd b)
  unfolding write_byte
  write-byte-fits r false b = latch-fits r b
  write-byte-fits r true b = write-fits r _

  read-byte-fits : (r : ℕ) (odd : Bool) → Fits s (read_byte s r odd)
  unfolding read_byte host_in_range timer_saved vram_load xr_loaded
  read-byte-fits r false =
      cond_either (Fits s) (eqb r 2) _ _
      (timer-fits _ (timer_saved s.host.timer) (λ f. record { within = f.within; stopped = f.stopped }) (λ _. omega arith) refl tt refl)
      (fits _ refl refl refl)
  read-byte-fits r true =
      cond_either (Fits s) (eqb r 5) _ _ (fits _ refl refl refl)
      (cond_either (Fits s) (eqb r 10 || eqb r 11) _ _ (fits _ refl refl refl) (fits _ refl refl refl))

  tick-fits : Fits s (TimerTick.tick s)
  unfolding TimerTick.tick
  tick-fits =
      timer-fits _ _ (ticked-counts s.host.timer) (ticked-saved s.host.timer) refl
      (cond_either Bounded (expires s.host.timer) (raised timer_expired) unchanged (omega arith) tt) refl

  -- The beam one pixel on, and the copper started at line 0.
  arrived-beyond : Beyond s (arrived s)
  unfolding arrived beam_moved beam_in_range copper_in_range
  arrived-beyond =
      let b = beam_moved frame s.beam in
      let here = reaches 0 b && copper_enabled s.video.coppctrl in
      record {
        beam = λ k. cond_either (λ (c : Beam). beam_in_range frame c ≡ true) here _ _ (inside k) (inside k);
        copper = λ k. cond_cases (λ (c : Beam). copper_in_range s.video.coppctrl c ≡ true) here _ _
            (λ e. started-in-range s.video.coppctrl b (simp and-eq-true_iff at e).1) (λ _. k);
        xr = refl;
      }
    where
      inside : beam_in_range frame s.beam ≡ true → beam_in_range frame (beam_moved frame s.beam) ≡ true
      inside k = beam-of frame _ (moved_inside frame s.beam (beam-facts frame s.beam k))

  -- An instruction of a copper that runs.
  module _ (full : Bool) (on : is_set s.beam.running ≡ true) where
    copper-at : (k : ℕ) → Beyond s (copper_at s k)
    unfolding copper_at beam_in_range
    copper-at k = record { beam = λ h. h; copper = λ h. running-at s.video.coppctrl k s.beam on h; xr = refl }

    quiet_at : (k : ℕ) → Fits s (quiet (copper_at s k))
    unfolding copper_at
    quiet_at k = record { host = λ h. h; status = tt; beyond = copper-at k }

    move-fits : (a w : ℕ) → Fits s (move full s a w)
    unfolding move copper_at
    move-fits a w = cond_either (Fits s) (full && is_blit_register a) _ _ (quiet_at _) (xr-write-fits (copper_on s 2) a w refl (copper-at _))

    wait-fits : (first second : ℕ) → Fits s (wait full s first second)
    wait-fits first second =
        cond_either (λ (t : Side). Fits s (quiet t)) (position_reached false frame s.beam first second) _ _ (quiet_at _) (fits _ refl refl refl)

    instruction-fits : Fits s (instruction full s)
    unfolding instruction
    instruction-fits =
        let first = program_at s.xr s.beam.word in
        let second = program_at s.xr (s.beam.word + 1) in
        get_or-each (λ (_ : ℕ) (f : Bool → Side → ℕ → ℕ → Act). Fits s (f full s first second)) pass instructions
        (wait-fits first second and quiet_at _ and quiet_at _ and move-fits _ _ and move-fits _ _ and move-fits _ _ and move-fits _ _ and tt)
        (λ _ _. quiet_at _) (opcode first)

  copper-fits : (full : Bool) → Fits s (copper_acts full s)
  unfolding copper_acts
  copper-fits full = cond_cases (Fits s) (is_set s.beam.running) _ _ (λ on. instruction-fits full on) (λ _. fits _ refl refl refl)

beam-fits : (full : Bool) (s : Side) → Fits s (beam_step full s)
unfolding beam_step arrived
beam-fits full s =
    let f = copper-fits (arrived s) full in
    record {
      host = f.host;
      status = cond_either Bounded (reaches visible_lines (arrived s).beam) (raised frame_ended) _ (omega arith) f.status;
      beyond = beyond-both (arrived-beyond s) f.beyond;
    }

pub act-fits : (a : Adapter) (c : Call) → Fits a.side (act_of a c)
unfolding act_of
act-fits a (write r odd b) = write-byte-fits a.side r odd b
act-fits a (read r odd) = read-byte-fits a.side r odd
act-fits a tick = tick-fits a.side
act-fits a beam = beam-fits (is_set a.queued) a.side
act-fits a line = fits a.side _ refl refl refl

-- Carrying out what fits keeps an adapter in range and its memories at their lengths.
changed-in-range : (c : StatusChange) (status : ℕ) → Bounded c → status ≤ all_status → changed c status ≤ all_status
unfolding changed
changed-in-range unchanged n b h = h
changed-in-range (raised bits) n b h = status-raised bits n b h
changed-in-range (cleared bits) n b h = omega (arith, and_le_l n (all_status - bits))

engine-started-queue : (e : Engine) (r : BlitRegs) → engine_in_range e ≡ true → e.running ≤ (started_engine e r).running
unfolding started_engine launched
engine-started-queue e r f =
    cond_cases (λ (x : Engine). e.running ≤ x.running) (is_set e.running) e (launched r) (λ _. omega arith)
    (λ n. let z = idle-flag e n f in omega arith)

engine-started-in-range : (e : Engine) (r : BlitRegs) → engine_in_range e ≡ true → engine_in_range (started_engine e r) ≡ true
unfolding started_engine
engine-started-in-range e r f = cond_either (λ (x : Engine). engine_in_range x ≡ true) (is_set e.running) e (launched r) f (launched-in-range r)

module _ (p : Act) (a : Adapter) (f : Fits a.side p) where
  carried-in-range : in_range (state_of a) ≡ true → in_range (state_of (carried_out p a)) ≡ true
  unfolding vram_loaded host_in_range
  carried-in-range h =
      let host = f.host (in-range-host (state_of a) h) in
      let beam = f.beyond.beam (in-range-beam (state_of a) h) in
      let copper = f.beyond.copper (in-range-copper (state_of a) h) in
      parts-in-range _ (cond_either (λ (s : Side). host_in_range s.host ≡ true) p.load _ _ host host)
      (changed-in-range p.status a.status f.status (in-range-status (state_of a) h))
      (in-range-queue (state_of a) h) (in-range-engine (state_of a) h)
      (cond_either (λ (s : Side). beam_in_range frame s.beam ≡ true) p.load _ _ beam beam)
      (cond_either (λ (s : Side). copper_in_range s.video.coppctrl s.beam ≡ true) p.load _ _ copper copper)

  pub performed-in-range : in_range (state_of a) ≡ true → in_range (state_of (perform p a)) ≡ true
  unfolding perform
  performed-in-range h =
      let k = carried-in-range h in
      cond_either (λ (b : Adapter). in_range (state_of b) ≡ true) p.start _ _
      (parts-in-range _ (in-range-host _ k) (in-range-status _ k) (engine-started-queue a.engine _ (in-range-engine (state_of a) h))
      (engine-started-in-range a.engine _ (in-range-engine (state_of a) h)) (in-range-beam _ k) (in-range-copper _ k)) k

  -- The host's side and VRAM after it, whether it starts a blit or not.
  pub performed-side : (perform p a).side ≡ (carried_out p a).side
  unfolding perform
  performed-side = cond_either (λ (b : Adapter). b.side ≡ (carried_out p a).side) p.start _ _ refl refl

  pub performed-vram : (perform p a).vram ≡ stored p.store a.vram
  unfolding perform
  performed-vram = cond_either (λ (b : Adapter). b.vram ≡ stored p.store a.vram) p.start _ _ refl refl

  performed-xr-length : length (perform p a).side.xr ≡ length a.side.xr
  unfolding vram_loaded
  performed-xr-length =
      ap (λ (s : Side). length s.xr) performed-side
      ∙ cond_either (λ (s : Side). length s.xr ≡ length a.side.xr) p.load _ _ f.beyond.xr f.beyond.xr

  performed-vram-length : length (perform p a).vram ≡ length a.vram
  performed-vram-length = ap length performed-vram ∙ stored-length p.store a.vram

pub done-in-range : (a : Adapter) (e : Event) → in_range (state_of a) ≡ true → in_range (state_of (done a e)) ≡ true
unfolding done
done-in-range a (call c) h = performed-in-range (act_of a c) a (act-fits a c) h
done-in-range a step h = stepped-in-range a h
done-in-range a (run n) h = steps-in-range n a h

pub done-vram-length : (a : Adapter) (e : Event) → length (done a e).vram ≡ length a.vram
unfolding done
done-vram-length a (call c) = performed-vram-length (act_of a c) a (act-fits a c)
done-vram-length a step = stepped-vram-length a
done-vram-length a (run n) = steps-vram-length n a

pub done-xr-length : (a : Adapter) (e : Event) → length (done a e).side.xr ≡ length a.side.xr
unfolding done
done-xr-length a (call c) = performed-xr-length (act_of a c) a (act-fits a c)
done-xr-length a step = ap (λ (s : Side). length s.xr) (stepped-side a)
done-xr-length a (run n) = ap (λ (s : Side). length s.xr) (steps-side n a)
