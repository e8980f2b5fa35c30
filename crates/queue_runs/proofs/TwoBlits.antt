-- The running blit and the queued one: two runs of one blit do all the steps that there are.
use mathlib.Core.Path.{◌≡◌, refl, sym, ◌∙◌}
use mathlib.Core.Bool.{false}
use mathlib.Core.List.{List}
use Prim.Native.Nat.{ℕ}
use native.Mathlib.Omega.{arith}
use native.Mathlib.Decide.{ℕ_discrete}
use Rattle.xosera.specs.State.{State, is_set}
use Rattle.xosera.specs.Adapter.{adapter}
use Rattle.xosera.specs.Blitter.{steps}
use Rattle.xosera.proofs.StepLaws.{steps-idle}
use Rattle.queue_runs.specs.OneBlit.{OneBlit}

-- With no rest a second run has nothing to do.
pub none_over : {s : State} {v : List ℕ} {n : ℕ} {t : State} {u : List ℕ} {k : ℕ} → OneBlit s v n t u k → k ≡ 0 → OneBlit t u k t u k
none_over one z = record {
  reached = λ x. refl;
  fewer = omega arith;
  in-range = one.in-range;
  vram-length = refl;
  unqueued = λ h. absurd (h z);
  idle = λ h _. absurd (h z);
}

module _ {s : State} {v : List ℕ} {n : ℕ} {t : State} {u : List ℕ} {k : ℕ} {f : State} {w : List ℕ} {l : ℕ}
    (one : OneBlit s v n t u k) (two : OneBlit t u k f w l) (x : List ℕ) where
  -- If there is a rest, the engine is idle.
  over : (l ≡ 0 → ⊥) → is_set f.engine.running ≡ false
  over h = two.idle h (one.unqueued (λ z. h (none z)))
    where
      none : k ≡ 0 → l ≡ 0
      none z = omega (arith, two.fewer)

  pub run-reached : adapter f w x ≡ steps n (adapter s v x)
  unfolding steps
  run-reached = rest (ℕ_discrete l 0) ∙ two.reached x ∙ one.reached x
    where
      rest : Dec (l ≡ 0) → adapter f w x ≡ steps l (adapter f w x)
      rest (yes z) = rw z
      rest (no h) = sym (steps-idle l (adapter f w x) (over h))
