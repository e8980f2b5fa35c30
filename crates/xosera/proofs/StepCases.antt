-- A blit step is one of three: nothing on an idle engine, a blit's last word, or another of its words; and its mask.
use mathlib.Core.Path.{◌≡◌, refl, ◌∙◌}
use mathlib.Core.Bool.{Bool, true, false}
use Prim.Native.Nat.{ℕ, zero, suc}
use Rattle.xosera.specs.State.{is_set}
use Rattle.xosera.specs.Adapter.{Adapter}
use Rattle.xosera.specs.Blitter.{drawn, last_step, word_drawn, blit_ended, stepped, steps, store_now, step_mask}
use Rattle.xosera.proofs.Branches.{cond_yes, cond_no, clash}

pub stepped-idle : (a : Adapter) → is_set a.engine.running ≡ false → stepped a ≡ a
unfolding stepped
stepped-idle a r = cond_no _ a r

pub stepped-last : (a : Adapter) → is_set a.engine.running ≡ true → last_step a.engine ≡ true → stepped a ≡ blit_ended (word_drawn a)
unfolding stepped
stepped-last a r l = cond_yes _ a r ∙ cond_yes _ _ l

pub stepped-on : (a : Adapter) → is_set a.engine.running ≡ true → last_step a.engine ≡ false → stepped a ≡ word_drawn a
unfolding stepped
stepped-on a r l = cond_yes _ a r ∙ cond_no _ _ l

-- What holds in each of the three cases holds of the step.
pub step-cases : (P : Adapter → Type 0) (a : Adapter) → (is_set a.engine.running ≡ false → P a)
    → (is_set a.engine.running ≡ true → last_step a.engine ≡ true → P (blit_ended (word_drawn a)))
    → (is_set a.engine.running ≡ true → last_step a.engine ≡ false → P (word_drawn a)) → P (stepped a)
step-cases P a idles ends goes = by-engine (is_set a.engine.running) refl
  where
    by-step : (l : Bool) → last_step a.engine ≡ l → is_set a.engine.running ≡ true → P (stepped a)
    by-step true l r = rw (stepped-last a r l) (ends r l)
    by-step false l r = rw (stepped-on a r l) (goes r l)

    by-engine : (b : Bool) → is_set a.engine.running ≡ b → P (stepped a)
    by-engine true r = by-step (last_step a.engine) refl r
    by-engine false r = rw (stepped-idle a r) (idles r)

-- What every step keeps, n steps keep.
pub steps-keep : (P : Adapter → Type 0) → ((a : Adapter) → P a → P (stepped a)) → (n : ℕ) (a : Adapter) → P a → P (steps n a)
unfolding steps
steps-keep P keeps zero a p = p
steps-keep P keeps (suc n) a p = steps-keep P keeps n (stepped a) (keeps a p)

-- A step on a running engine draws the engine's next word and no other, and its mask is that of the store.
pub stepped-vram : (a : Adapter) → is_set a.engine.running ≡ true → (stepped a).vram ≡ drawn a.engine a.vram
stepped-vram a r =
    step-cases (λ (c : Adapter). c.vram ≡ drawn a.engine a.vram) a (λ i. absurd (clash r i)) (λ _ _. refl) (λ _ _. refl)

pub running-mask : (a : Adapter) → is_set a.engine.running ≡ true → step_mask a ≡ (store_now a).mask
unfolding step_mask
running-mask a r = cond_yes _ 0 r

pub idle-mask : (a : Adapter) → is_set a.engine.running ≡ false → step_mask a ≡ 0
unfolding step_mask
idle-mask a r = cond_no _ 0 r
