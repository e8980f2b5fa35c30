-- What blit steps write: a running engine's next step is one store, and a word that no step writes stays.
use mathlib.Core.Path.{◌≡◌, refl, sym, ap, ◌∙◌}
use mathlib.Core.Bool.{true, false}
use Prim.Native.Nat.{ℕ, zero, suc, ◌%◌}
use Rattle.xosera.specs.State.{is_set}
use Rattle.xosera.specs.Memories.{place, word}
use Rattle.xosera.specs.Adapter.{Adapter}
use Rattle.xosera.specs.Blitter.{drawing, drawn, stepped, steps, store_now}
use Rattle.xosera.proofs.Branches.{or-eq-false-iff}
use Rattle.xosera.proofs.StepCases.{step-cases, running-mask}
use Rattle.xosera.proofs.RangeLaws.{stepped-vram-length}
use Rattle.order.specs.Order.{writes_now, blit_writes}
use Rattle.order.proofs.StoreLaws.{touches, stored-word}

-- The word that a running engine's next step writes.
pub running-writes : (a : Adapter) (w : ℕ) → is_set a.engine.running ≡ true → writes_now a w ≡ touches (store_now a) a.vram w
unfolding writes_now touches drawing
running-writes a w on = rw (running-mask a on)

-- Every address keeps its place.
pub stepped-place : (a : Adapter) (x : ℕ) → place (stepped a).vram x ≡ place a.vram x
unfolding place
stepped-place a x = ap (λ (n : ℕ). x % n) (stepped-vram-length a)

-- A word that is not written stays.
stepped-word : (a : Adapter) (x : ℕ) → writes_now a (place a.vram x) ≡ false → word (stepped a).vram x ≡ word a.vram x
unfolding drawn
stepped-word a x h = step-cases (λ (b : Adapter). word b.vram x ≡ word a.vram x) a (λ _. refl) (λ on _. stays on) (λ on _. stays on)
  where
    stays : is_set a.engine.running ≡ true → word (drawn a.engine a.vram) x ≡ word a.vram x
    stays on = stored-word (store_now a) a.vram x (sym (running-writes a (place a.vram x) on) ∙ h)

pub steps-word : (n : ℕ) (a : Adapter) (x : ℕ) → blit_writes n a (place a.vram x) ≡ false → word (steps n a).vram x ≡ word a.vram x
unfolding steps blit_writes
steps-word zero a x h = refl
steps-word (suc n) a x h =
    let k = simp or-eq-false-iff at h in
    steps-word n (stepped a) x (rw (stepped-place a x) k.1) ∙ stepped-word a x k.0
