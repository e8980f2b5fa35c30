-- What the ranges say, field by field, and that blit steps keep them.
use mathlib.Core.Path.{◌≡◌, refl, sym, ◌∙◌}
use mathlib.Core.Bool.{Bool, true, false, ◌&&◌, ◌||◌}
use mathlib.Core.List.{List, [], ◌∷◌}
use Prim.Native.Nat.{ℕ, zero, suc, ◌≤◌}
use native.Mathlib.Omega.{arith}
use lib.Bits.{bit_or, or_lt}
use lib.Dec.{eqb, leb}
use lib.ListN.{length, get_or, set}
use borrow.Author.Tests.{eqb-true, eqb-false, leb-true, eq-eqb, le-leb, ne_eqb}
use Rattle.xosera.specs.State.{Timer, Host, State, is_set}
use Rattle.xosera.specs.Fields.{blit_done, all_status}
use Rattle.xosera.specs.Adapter.{Adapter, state_of}
use Rattle.xosera.specs.Beam.{frame}
use Rattle.xosera.specs.TimerTick.{expires, lowered, ticked}
use Rattle.xosera.specs.Blitter.{fetched, next, stepped, steps}
use Rattle.xosera.specs.Ranges.{Running, timer_in_range, are_bytes, host_in_range, engine_in_range, beam_in_range, copper_in_range, in_range}
use Rattle.xosera.proofs.Branches.{parts}
use Rattle.xosera.proofs.StepCases.{step-cases, steps-keep}
use Rattle.xosera.proofs.EngineLaws.{in-range-running, running-in-range, idle-flag, next-running, succeeding-in-range, drawn-length}

-- A state in range, by its parts.
module _ (s : State) (h : in_range s ≡ true) where
  pub in-range-host : host_in_range s.host ≡ true
  unfolding in_range
  in-range-host = (simp parts at h).0.0.0.0.0

  pub in-range-status : s.status ≤ all_status
  unfolding in_range
  in-range-status = (simp parts at h).0.0.0.0.1

  pub in-range-queue : s.queued ≤ s.engine.running
  unfolding in_range
  in-range-queue = (simp parts at h).0.0.0.1

  pub in-range-engine : engine_in_range s.engine ≡ true
  unfolding in_range
  in-range-engine = (simp parts at h).0.0.1

  pub in-range-beam : beam_in_range frame s.beam ≡ true
  unfolding in_range
  in-range-beam = (simp parts at h).0.1

  pub in-range-copper : copper_in_range s.video.coppctrl s.beam ≡ true
  unfolding in_range
  in-range-copper = (simp parts at h).1

  -- It runs and is fit to go on, or it is idle and nothing is queued.
  pub in-range-runs : is_set s.engine.running ≡ true → Running s.engine
  in-range-runs on = in-range-running s.engine on in-range-engine

  pub in-range-unqueued : is_set s.engine.running ≡ false → s.queued ≡ 0
  in-range-unqueued off = omega (arith, in-range-queue, idle-flag s.engine off in-range-engine)

pub parts-in-range : (s : State) → host_in_range s.host ≡ true → s.status ≤ all_status → s.queued ≤ s.engine.running
    → engine_in_range s.engine ≡ true → beam_in_range frame s.beam ≡ true → copper_in_range s.video.coppctrl s.beam ≡ true
    → in_range s ≡ true
unfolding in_range
parts-in-range s host status queue engine beam copper = simp parts (((((host, status), queue), engine), beam), copper)

-- A blit step.
pub status-raised : (bits status : ℕ) → bits ≤ all_status → status ≤ all_status → bit_or status bits ≤ all_status
status-raised bits status b s = omega (arith, or_lt 7 status bits (omega arith) (omega arith))

pub stepped-in-range : (a : Adapter) → in_range (state_of a) ≡ true → in_range (state_of (stepped a)) ≡ true
unfolding next
stepped-in-range a h =
    let host = in-range-host (state_of a) h in
    let status = in-range-status (state_of a) h in
    let beam = in-range-beam (state_of a) h in
    let copper = in-range-copper (state_of a) h in
    step-cases (λ (b : Adapter). in_range (state_of b) ≡ true) a (λ _. h)
    (λ r l. parts-in-range _ host (status-raised blit_done a.status (omega arith) status) (omega arith)
    (succeeding-in-range (is_set a.queued) a.side.blit) beam copper)
    (λ r l. parts-in-range _ host status (omega (arith, in-range-queue (state_of a) h, eqb-true a.engine.running 1 r))
    (running-in-range _ (next-running a.engine (fetched a.engine a.vram) (in-range-runs (state_of a) h r) l)) beam copper)

pub steps-in-range : (n : ℕ) (a : Adapter) → in_range (state_of a) ≡ true → in_range (state_of (steps n a)) ≡ true
steps-in-range n a h = steps-keep (λ (b : Adapter). in_range (state_of b) ≡ true) stepped-in-range n a h

pub stepped-vram-length : (a : Adapter) → length (stepped a).vram ≡ length a.vram
stepped-vram-length a =
    step-cases (λ (b : Adapter). length b.vram ≡ length a.vram) a (λ _. refl)
    (λ _ _. drawn-length a.engine a.vram) (λ _ _. drawn-length a.engine a.vram)

pub steps-vram-length : (n : ℕ) (a : Adapter) → length (steps n a).vram ≡ length a.vram
steps-vram-length n a = steps-keep (λ (b : Adapter). length b.vram ≡ length a.vram) (λ b h. stepped-vram-length b ∙ h) n a refl

-- A step leaves the host's side as it was.
pub stepped-side : (a : Adapter) → (stepped a).side ≡ a.side
stepped-side a = step-cases (λ (b : Adapter). b.side ≡ a.side) a (λ _. refl) (λ _ _. refl) (λ _ _. refl)

pub steps-side : (n : ℕ) (a : Adapter) → (steps n a).side ≡ a.side
steps-side n a = steps-keep (λ (b : Adapter). b.side ≡ a.side) (λ b h. stepped-side b ∙ h) n a refl

-- A countdown in range, by its numbers.
pub record Counts (t : Timer) : Type 0 where
  pub within : t.countdown ≤ t.interval
  pub stopped : t.countdown ≡ 0 → t.interval ≡ 0

abbrev pub countdown_test : ℕ → ℕ → Bool
countdown_test c i = leb 1 c && leb c i || eqb c 0 && eqb i 0

running-test : (c i : ℕ) → countdown_test (suc c) i ≡ leb (suc c) i
running-test c i = rw (le-leb 1 (suc c) (omega arith), ne_eqb (suc c) 0 (omega arith)) (go (leb (suc c) i))
  where
    go : (b : Bool) → b || false ≡ b
    go true = refl
    go false = refl

pub timer-facts : (t : Timer) → timer_in_range t ≡ true → Counts t
unfolding timer_in_range
timer-facts t h = go t.countdown t.interval refl refl h
  where
    go : (c i : ℕ) → t.countdown ≡ c → t.interval ≡ i → countdown_test c i ≡ true → Counts t
    go zero i c' i' k = let z = eqb-true i 0 k in record { within = omega arith; stopped = λ _. omega arith }
    go (suc c) i c' i' k =
        let l = leb-true (suc c) i (sym (running-test c i) ∙ k) in record { within = omega arith; stopped = λ z. absurd (omega arith) }

pub timer-of : (t : Timer) → Counts t → timer_in_range t ≡ true
unfolding timer_in_range
timer-of t f = go t.countdown t.interval f.within f.stopped
  where
    go : (c i : ℕ) → c ≤ i → (c ≡ 0 → i ≡ 0) → countdown_test c i ≡ true
    go zero i l z = eq-eqb i 0 (z refl)
    go (suc c) i l z = running-test c i ∙ le-leb (suc c) i l

pub ticked-counts : (t : Timer) → Counts t → Counts (ticked t)
unfolding ticked lowered expires
ticked-counts t f = go (eqb t.countdown 1) refl
  where
    go : (b : Bool) → eqb t.countdown 1 ≡ b → Counts (ticked t)
    go true e = rw e (record { within = omega arith; stopped = λ z. z })
    go false e =
        let more = eqb-false t.countdown 1 e in
        rw e (record { within = omega arith; stopped = λ z. f.stopped (omega arith) })

pub ticked-saved : (t : Timer) → t.saved ≤ 255 → (ticked t).saved ≤ 255
unfolding ticked
ticked-saved t h = h

-- A host in range, by its fields.
pub record HostRanged (h : Host) : Type 0 where
  pub nibbles : h.vram.nibbles ≤ 15
  pub intmask : h.intmask ≤ 127
  pub timer : timer_in_range h.timer ≡ true
  pub saved : h.timer.saved ≤ 255
  pub latches : are_bytes h.latches ≡ true

pub host-facts : (h : Host) → host_in_range h ≡ true → HostRanged h
unfolding host_in_range
host-facts h k =
    let f = simp parts at k in
    record { nibbles = f.0.0.0.0; intmask = f.0.0.0.1; timer = f.0.0.1; saved = f.0.1; latches = f.1 }

pub host-of : (h : Host) → HostRanged h → host_in_range h ≡ true
unfolding host_in_range
host-of h f = simp parts ((((f.nibbles, f.intmask), f.timer), f.saved), f.latches)

-- A byte put among bytes.
pub set-bytes : (l : List ℕ) (i v : ℕ) → v ≤ 255 → are_bytes l ≡ true → are_bytes (set l i v) ≡ true
unfolding are_bytes
set-bytes [] i v b h = h
set-bytes (x ∷ xs) zero v b h = let k = simp parts at h in simp parts (b, k.1)
set-bytes (x ∷ xs) (suc i) v b h = let k = simp parts at h in simp parts (k.0, set-bytes xs i v b k.1)

-- Every one of some bytes is a byte.
bytes-at : (l : List ℕ) (i : ℕ) → are_bytes l ≡ true → get_or l i 0 ≤ 255
unfolding are_bytes
bytes-at [] i h = omega arith
bytes-at (b ∷ bs) zero h = (simp parts at h).0
bytes-at (b ∷ bs) (suc i) h = bytes-at bs i (simp parts at h).1

pub latch-byte : (s : State) (r : ℕ) → in_range s ≡ true → get_or s.host.latches r 0 ≤ 255
latch-byte s r h = bytes-at s.host.latches r (host-facts s.host (in-range-host s h)).latches
