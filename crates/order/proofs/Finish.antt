-- Finishing: a reference adapter is the other one with its pending work done. A blit step keeps this, for to step and then
-- finish is to finish.
use mathlib.Core.Path.{◌≡◌, refl, sym, ap, ◌∙◌}
use mathlib.Core.Bool.{Bool, true, false}
use Prim.Native.Nat.{ℕ, ◌+◌, ◌≤◌}
use native.Mathlib.Nat.{le_refl}
use native.Mathlib.Omega.{arith}
use Rattle.xosera.specs.State.{is_set}
use Rattle.xosera.specs.Adapter.{Adapter, state_of}
use Rattle.xosera.specs.Blitter.{idle, stepped, steps, words_left}
use Rattle.calls.specs.Refusals.{Fit}
use Rattle.xosera.proofs.Branches.{or-eq-false-iff}
use Rattle.xosera.proofs.StepCases.{step-cases, stepped-idle, steps-keep}
use Rattle.xosera.proofs.RangeLaws.{in-range-unqueued, stepped-side, steps-side}
use Rattle.xosera.proofs.StepLaws.{running-stepped-left, steps-left, over-after}
use Rattle.calls.proofs.FitLaws.{stepped-fit, steps-fit}
use Rattle.order.specs.Order.{blit_reads, blit_writes}
use Rattle.order.proofs.Fit.{fit-idle}
use Rattle.order.proofs.Status.{SameBits, stepped-status}

-- An adapter with its pending work done.
abbrev pub finished : Adapter → Adapter
finished a = steps (words_left a) a

-- r is a with its pending work done, but for status bit 6. `full` says whether a blit may be queued.
pub record Finishes (full : Bool) (a r : Adapter) : Type 0 where
  pub fit : Fit a
  pub fit-ref : Fit r
  pub side : r.side ≡ a.side
  pub engine : r.engine ≡ idle
  pub unqueued : r.queued ≡ 0
  pub vram : r.vram ≡ (finished a).vram
  pub status : SameBits r.status a.status
  pub alone : full ≡ false → is_set a.queued ≡ false

-- The words that pending work reads and writes are among the given ones.
pub record Within (reads writes : ℕ → Bool) (a : Adapter) : Type 0 where
  pub unread : (w : ℕ) → reads w ≡ false → blit_reads (words_left a) a w ≡ false
  pub unwritten : (w : ℕ) → writes w ≡ false → blit_writes (words_left a) a w ≡ false

-- The invariant along a list: r is the reference, the pending work keeps to the given words, and at most n words of it are left.
pub record OnCourse (full : Bool) (reads writes : ℕ → Bool) (n : ℕ) (a r : Adapter) : Type 0 where
  pub finishes : Finishes full a r
  pub within : Within reads writes a
  pub words_left : words_left a ≤ n

-- What holds of a running engine's step and of an adapter that stays holds of every step.
by-engine : (a : Adapter) (P : Adapter → Type 0) → (is_set a.engine.running ≡ true → P (stepped a)) → P a → P (stepped a)
by-engine a P running idling = go (is_set a.engine.running) refl
  where
    go : (b : Bool) → is_set a.engine.running ≡ b → P (stepped a)
    go true on = running on
    go false off = rw (stepped-idle a off) idling

pub stepped-unqueued : (a : Adapter) → is_set a.queued ≡ false → is_set (stepped a).queued ≡ false
stepped-unqueued a q = step-cases (λ (b : Adapter). is_set b.queued ≡ false) a (λ _. q) (λ _ _. refl) (λ _ _. q)

module _ (a : Adapter) (fit : Fit a) where
  stepped-finished : finished (stepped a) ≡ finished a
  unfolding steps
  stepped-finished =
      by-engine a (λ (b : Adapter). finished b ≡ finished a) (λ on. sym (ap (λ (n : ℕ). steps n a) (running-stepped-left a fit.state on))) refl

  stepped_within : {reads writes : ℕ → Bool} → Within reads writes a → Within reads writes (stepped a)
  unfolding blit_reads blit_writes
  stepped_within {reads} {writes} within = by-engine a (λ (b : Adapter). Within reads writes b)
      (λ on. record {
        unread = λ w h. (simp or-eq-false-iff at (rw (running-stepped-left a fit.state on) at (within.unread w h))).1;
        unwritten = λ w h. (simp or-eq-false-iff at (rw (running-stepped-left a fit.state on) at (within.unwritten w h))).1;
      })
      within

stepped-finishes : {full : Bool} (a r : Adapter) → Finishes full a r → Finishes full (stepped a) r
stepped-finishes a r f = record {
  fit = stepped-fit a f.fit;
  fit-ref = f.fit-ref;
  side = f.side ∙ sym (stepped-side a);
  engine = f.engine;
  unqueued = f.unqueued;
  vram = f.vram ∙ ap (λ (b : Adapter). b.vram) (sym (stepped-finished a f.fit));
  status = f.status ∙ sym (stepped-status a);
  alone = λ no. stepped-unqueued a (f.alone no);
}

-- n steps take as many off the words left.
pub steps-on-course : {full : Bool} {reads writes : ℕ → Bool} (n m : ℕ) (a r : Adapter) →
    OnCourse full reads writes (n + m) a r → OnCourse full reads writes m (steps n a) r
steps-on-course {full} {reads} {writes} n m a r h =
    let whole =
    steps-keep (λ (b : Adapter). Finishes full b r × Within reads writes b)
    (λ b k. (stepped-finishes b r k.0, stepped_within b k.0.fit k.1)) n a (h.finishes, h.within) in
    record { finishes = whole.0; within = whole.1; words_left = omega (arith, steps-left n a h.finishes.fit.state, h.words_left) }

-- Pending work that is all done: nothing runs and nothing is queued.
pub finished-finishes : {full : Bool} (a : Adapter) → Fit a → (full ≡ false → is_set a.queued ≡ false) → Finishes full a (finished a)
finished-finishes a fit alone =
    let fit-ref : Fit (finished a) = steps-fit a fit (words_left a) in
    let off : is_set (finished a).engine.running ≡ false = over-after (words_left a) a fit.state (le_refl (words_left a)) in
    record {
      fit = fit;
      fit-ref = fit-ref;
      side = steps-side (words_left a) a;
      engine = fit-idle (finished a) fit-ref off;
      unqueued = in-range-unqueued (state_of (finished a)) fit-ref.state off;
      vram = refl;
      status = steps-keep (λ (b : Adapter). SameBits b.status a.status) (λ b h. stepped-status b ∙ h) (words_left a) a refl;
      alone = alone;
    }
