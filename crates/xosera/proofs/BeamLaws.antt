-- The beam stays inside its frame and the copper in its range, whatever moves them.
use mathlib.Core.Path.{◌≡◌, refl, ap}
use mathlib.Core.Bool.{Bool, true, false, cond, not, ◌&&◌, and-eq-true_iff, and-false}
use Prim.Native.Nat.{ℕ, ◌+◌, ◌%◌, ◌<◌}
use native.Mathlib.Omega.{arith}
use lib.Dec.{eqb}
use borrow.Author.Tests.{eqb-true, eqb-false, lt-ltb}
use Rattle.xosera.specs.State.{Video, Beam, is_set}
use Rattle.xosera.specs.Fields.{frame_ended, copper_enabled}
use Rattle.xosera.specs.Beam.{Frame, visible_lines, line_ends, next_line, beam_moved, reaches, copper_started, copper_stopped, with_copper, program_length}
use Rattle.xosera.specs.Memories.{no_store}
use Rattle.xosera.specs.Adapter.{Side}
use Rattle.xosera.specs.Plan.{Act, quiet, unchanged, raised}
use Rattle.xosera.specs.XrSpace.{put, video_write, beam_write}
use Rattle.xosera.specs.Copper.{arrived, copper_acts, beam_step}
use Rattle.xosera.specs.Ranges.{beam_in_range, copper_in_range}
use Rattle.xosera.proofs.Branches.{cond_no, cond_cases, cond_either, parts, and_both, clash, not-passed}

-- A beam inside its frame, by its numbers.
pub record Inside (f : Frame) (b : Beam) : Type 0 where
  pub line : b.line < f.lines
  pub position : b.position < f.positions

pub beam-facts : (f : Frame) (b : Beam) → beam_in_range f b ≡ true → Inside f b
unfolding beam_in_range
beam-facts f b h = let k = simp parts at h in record { line = k.0; position = k.1 }

pub beam-of : (f : Frame) (b : Beam) → Inside f b → beam_in_range f b ≡ true
unfolding beam_in_range
beam-of f b k = simp parts (k.line, k.position)

-- The beam one position on.
pub moved_inside : (f : Frame) (b : Beam) → Inside f b → Inside f (beam_moved f b)
unfolding beam_moved next_line line_ends
moved_inside f b k = record {
  line =
      cond_either (λ (n : ℕ). n < f.lines) (eqb (b.position + 1) f.positions) _ _
      (cond_cases (λ (n : ℕ). n < f.lines) (eqb (b.line + 1) f.lines) _ _ (λ _. omega (arith, k.line))
      (λ e. omega (arith, k.line, eqb-false (b.line + 1) f.lines e))) k.line;
  position =
      cond_cases (λ (n : ℕ). n < f.positions) (eqb (b.position + 1) f.positions) _ _ (λ _. omega (arith, k.position))
      (λ e. omega (arith, k.position, eqb-false (b.position + 1) f.positions e));
}

-- The copper: its range looks at the enable bit, the flag and the word.
pub started-in-range : (ctrl : ℕ) (b : Beam) → copper_enabled ctrl ≡ true → copper_in_range ctrl (copper_started b) ≡ true
unfolding copper_in_range
started-in-range ctrl b h = and_both h refl

stopped-in-range : (ctrl : ℕ) (b : Beam) → copper_in_range ctrl (copper_stopped b) ≡ true
unfolding copper_in_range
stopped-in-range ctrl b = refl

enabled-in-range : (ctrl other : ℕ) (b : Beam) → copper_enabled other ≡ true → copper_in_range ctrl b ≡ true → copper_in_range other b ≡ true
unfolding copper_in_range
enabled-in-range ctrl other b on h = go (is_set b.running) refl
  where
    go : (r : Bool) → is_set b.running ≡ r → copper_in_range other b ≡ true
    go true e = let k = simp and-eq-true_iff at (rw e at h) in rw e (and_both on k.1)
    go false e = rw e (rw e at h)

-- A copper that runs may stand at any word of its program; while it runs it is enabled.
pub running-at : (ctrl k : ℕ) (b : Beam) → is_set b.running ≡ true → copper_in_range ctrl b ≡ true
    → copper_in_range ctrl (with_copper b b.running (k % program_length)) ≡ true
unfolding copper_in_range
running-at ctrl k b on h =
    let e = simp and-eq-true_iff at (rw on at h) in rw on (and_both e.0 (lt-ltb (k % program_length) program_length (omega arith)))

-- With bit 15 clear it is stopped.
pub disabled-stopped : (ctrl : ℕ) (b : Beam) → copper_enabled ctrl ≡ false → copper_in_range ctrl b ≡ true → is_set b.running ≡ false
unfolding copper_in_range
disabled-stopped ctrl b off h = go (is_set b.running) refl
  where
    go : (r : Bool) → is_set b.running ≡ r → is_set b.running ≡ false
    go true e = absurd (clash (simp and-eq-true_iff at (rw e at h)).0 off)
    go false e = e

-- A write in the XR space leaves both in range.
pub write-inside : (f : Frame) (b : Beam) (a w : ℕ) → beam_in_range f b ≡ true → beam_in_range f (beam_write b a w) ≡ true
unfolding beam_write beam_in_range
write-inside f b a w h = cond_either (λ (c : Beam). beam_in_range f c ≡ true) (eqb a 0x01 && not (copper_enabled w)) (copper_stopped b) b h h

pub write-in-range : (v : Video) (b : Beam) (a w : ℕ) → copper_in_range v.coppctrl b ≡ true
    → copper_in_range (video_write v a w).coppctrl (beam_write b a w) ≡ true
unfolding video_write put beam_write
write-in-range v b a w h = go (eqb a 0x01) (copper_enabled w) refl refl
  where
    go : (one on : Bool) → eqb a 0x01 ≡ one → copper_enabled w ≡ on → copper_in_range (video_write v a w).coppctrl (beam_write b a w) ≡ true
    go false on e k = rw e h
    go true true e k = rw (e, k) (enabled-in-range v.coppctrl w b k h)
    go true false e k = rw (e, k) (stopped-in-range w b)

-- A beam past a line's first position reaches none by its step.
pub past-reaches-none : (line : ℕ) (b : Beam) → (b.position ≡ 0 → ⊥) → reaches line b ≡ false
unfolding reaches
past-reaches-none line b past = not-passed _ (λ e. past (eqb-true b.position 0 (simp and-eq-true_iff at e).1))

-- A beam step with the copper stopped: the beam one pixel on, and the frame end.
abbrev pub stopped_step : Side → Act
stopped_step s = record {
  side = arrived s;
  store = no_store;
  load = false;
  start = false;
  status = cond (reaches visible_lines (arrived s).beam) (raised frame_ended) unchanged;
}

stopped-acts : (full : Bool) (s : Side) → is_set s.beam.running ≡ false → copper_acts full s ≡ quiet s
unfolding copper_acts
stopped-acts full s off = cond_no _ _ off

pub stopped-step : (full : Bool) (s : Side) → is_set (arrived s).beam.running ≡ false → beam_step full s ≡ stopped_step s
unfolding beam_step
stopped-step full s off =
    ap (λ (p : Act). record {
      side = p.side;
      store = no_store;
      load = false;
      start = p.start;
      status = cond (reaches visible_lines (arrived s).beam) (raised frame_ended) p.status;
    }) (stopped-acts full (arrived s) off)

-- A disabled copper is stopped and is not started.
pub disabled-arrives-stopped : (s : Side) → copper_enabled s.video.coppctrl ≡ false → copper_in_range s.video.coppctrl s.beam ≡ true
    → is_set (arrived s).beam.running ≡ false
unfolding arrived beam_moved
disabled-arrives-stopped s off h = rw (off, and-false) (disabled-stopped s.video.coppctrl s.beam off h)
