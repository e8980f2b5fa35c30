-- Demand 2: each step takes one word off those left, the engine runs as long as some are left, and a run counts what its steps count.
use mathlib.Core.Path.{◌≡◌, refl, sym, ◌∙◌, ap}
use mathlib.Core.Bool.{Bool, true, false}
use Prim.Native.Nat.{ℕ, zero, suc, ◌+◌, ◌-◌, ◌≤◌, ◌<◌, min}
use native.Mathlib.Omega.{arith}
use native.Mathlib.Decide.{ℕ_discrete}
use native.Mathlib.Nat.{zero-add, suc-add, mod-mod}
use Rattle.xosera.specs.declared.BlitRegs.{BlitRegs}
use Rattle.xosera.specs.State.{is_set}
use Rattle.xosera.specs.Adapter.{Adapter, state_of}
use Rattle.xosera.specs.Blitter.{launched, fetched, sourced, drawing, last_step, stepped, steps}
use Rattle.xosera.specs.Blitter.{step_mask, nth_mask, blit_words, words_left}
use Rattle.xosera.specs.Events.{step, run}
use Rattle.xosera.specs.Ranges.{Running, in_range}
use Rattle.xosera.specs.Acts.{given}
use Rattle.xosera.proofs.Branches.{cond_either, not-passed}
use Rattle.xosera.proofs.EngineLaws.{last-left, next-left, idle-left, running-left, succeeding-left, write-mask-small}
use Rattle.xosera.proofs.StepCases.{stepped-idle, stepped-last, stepped-on}
use Rattle.xosera.proofs.RangeLaws.{in-range-unqueued, in-range-runs, stepped-in-range, steps-in-range}

-- Steps on an idle engine.
pub steps-idle : (n : ℕ) (a : Adapter) → is_set a.engine.running ≡ false → steps n a ≡ a
unfolding steps
steps-idle zero a r = refl
steps-idle (suc n) a r = rw (stepped-idle a r) (steps-idle n a r)

pub steps-add : (m n : ℕ) (a : Adapter) → steps (m + n) a ≡ steps n (steps m a)
unfolding steps
steps-add zero n a = rw zero-add
steps-add (suc m) n a = rw suc-add (steps-add m n (stepped a))

-- The last of n + 1 steps is done on what n steps left.
pub steps-last : (n : ℕ) (a : Adapter) → steps (suc n) a ≡ stepped (steps n a)
unfolding steps
steps-last zero a = refl
steps-last (suc n) a = steps-last n (stepped a)

-- The mask of a step has four bits.
pub step-mask-small : (a : Adapter) → step_mask a ≤ 15
unfolding step_mask drawing
step-mask-small a =
    let small = write-mask-small a.engine (sourced a.engine (fetched a.engine a.vram)) in
    cond_either (λ (m : ℕ). m ≤ 15) (is_set a.engine.running) _ 0 small (omega arith)

pub nth-mask-small : (n : ℕ) (a : Adapter) → nth_mask n a ≤ 15
unfolding nth_mask
nth-mask-small zero a = omega arith
nth-mask-small (suc n) a = step-mask-small (steps n a)

-- Words left: none when idle, some while running, and one less after each step.
module _ (a : Adapter) (h : in_range (state_of a) ≡ true) where
  pub idle-none-left : is_set a.engine.running ≡ false → words_left a ≡ 0
  unfolding words_left
  idle-none-left r = rw (idle-left a.engine r, in-range-unqueued (state_of a) h r)

  pub running-some-left : is_set a.engine.running ≡ true → 0 < words_left a
  unfolding words_left
  running-some-left r = omega (arith, running-left a.engine (in-range-runs (state_of a) h r))

  running-while-left : 0 < words_left a → is_set a.engine.running ≡ true
  running-while-left l = go (is_set a.engine.running) refl
    where
      go : (b : Bool) → is_set a.engine.running ≡ b → is_set a.engine.running ≡ true
      go true r = r
      go false r = absurd (omega (arith, idle-none-left r))

  idle-once-none-left : words_left a ≡ 0 → is_set a.engine.running ≡ false
  idle-once-none-left l = not-passed (is_set a.engine.running) (λ r. absurd (omega (arith, running-some-left r)))

  pub running-stepped-left : is_set a.engine.running ≡ true → words_left a ≡ suc (words_left (stepped a))
  unfolding words_left
  running-stepped-left r = go (last_step a.engine) refl
    where
      f : Running a.engine
      f = in-range-runs (state_of a) h r

      go : (l : Bool) → last_step a.engine ≡ l → words_left a ≡ suc (words_left (stepped a))
      go true l = rw (stepped-last a r l, last-left a.engine f l, succeeding-left) (omega arith)
      go false l = rw (stepped-on a r l, next-left a.engine (fetched a.engine a.vram) f l) (omega arith)

  stepped-left : words_left (stepped a) ≡ words_left a - 1
  stepped-left = go (is_set a.engine.running) refl
    where
      go : (b : Bool) → is_set a.engine.running ≡ b → words_left (stepped a) ≡ words_left a - 1
      go true r = omega (arith, running-stepped-left r)
      go false r = rw (stepped-idle a r) (omega (arith, idle-none-left r))

pub steps-left : (n : ℕ) (a : Adapter) → in_range (state_of a) ≡ true → words_left (steps n a) ≡ words_left a - n
unfolding steps
steps-left zero a h = omega arith
steps-left (suc n) a h = steps-left n (stepped a) (stepped-in-range a h) ∙ rw (stepped-left a h) (omega arith)

-- The engine runs as long as words are left, and then no more.
module _ (n : ℕ) (a : Adapter) (h : in_range (state_of a) ≡ true) where
  pub over-after : words_left a ≤ n → is_set (steps n a).engine.running ≡ false
  over-after l = idle-once-none-left (steps n a) (steps-in-range n a h) (omega (arith, steps-left n a h))

  pub not-before : n < words_left a → is_set (steps n a).engine.running ≡ true
  not-before l = running-while-left (steps n a) (steps-in-range n a h) (omega (arith, steps-left n a h))

-- Of n steps only as many matter as words are left.
pub steps-enough : (n : ℕ) (a : Adapter) → in_range (state_of a) ≡ true → steps (min n (words_left a)) a ≡ steps n a
steps-enough n a h = go (ℕ_discrete (min n (words_left a)) n)
  where
    m : ℕ
    m = min n (words_left a)

    go : Dec (min n (words_left a) ≡ n) → steps (min n (words_left a)) a ≡ steps n a
    go (yes e) = ap (λ (k : ℕ). steps k a) e
    go (no d) =
        let split : m + (n - m) ≡ n = omega arith in
        sym (steps-idle (n - m) (steps m a) (over-after m a h (omega (arith, d)))) ∙ sym (steps-add m (n - m) a) ∙ ap (λ (k : ℕ). steps k a) split

-- What n single steps count.
unfoldable pub steps_count : ℕ → Adapter → ℕ
steps_count zero a = 0
steps_count (suc n) a = given a step + steps_count n (stepped a)

pub run-counts : (n : ℕ) (a : Adapter) → in_range (state_of a) ≡ true → steps_count n a ≡ given a (run n)
unfolding steps_count given
run-counts zero a h = omega arith
run-counts (suc n) a h =
    ap (λ (k : ℕ). min 1 (words_left a) + k) (run-counts n (stepped a) (stepped-in-range a h)) ∙ rw (stepped-left a h) (omega arith)

pub launched-words : (r : BlitRegs) → blit_words (launched r).regs ≡ blit_words r
unfolding launched blit_words
launched-words r = rw mod-mod
