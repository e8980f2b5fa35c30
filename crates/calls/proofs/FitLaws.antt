-- On an adapter to which refusals 1 to 3 do not apply, blit steps, runs and beam steps are done.
use mathlib.Core.Path.{◌≡◌, refl, ap, subst, ◌∙◌}
use mathlib.Core.List.{[]}
use Prim.Native.Nat.{ℕ}
use Rattle.xosera.specs.State.{is_set}
use Rattle.xosera.specs.Adapter.{Adapter}
use Rattle.xosera.specs.Plan.{perform}
use Rattle.xosera.specs.Copper.{beam_step}
use Rattle.xosera.specs.Blitter.{stepped, steps}
use Rattle.xosera.specs.Events.{Event, beam, call, step, run}
use Rattle.calls.specs.Refusals.{Fit, lent_tests, tests, first, refusal}
use Rattle.xosera.specs.Acts.{act_of, done}
use Rattle.calls.specs.Calls.{after}
use Rattle.calls.proofs.AfterLaws.{after-fit}
use Rattle.calls.proofs.RefusalLaws.{fit-passes}

module _ (a : Adapter) (fit : Fit a) where
  lent-accepted : (e : Event) → tests a e ≡ lent_tests a [] → refusal a e ≡ 0
  unfolding refusal first
  lent-accepted e t = ap first t ∙ fit-passes a fit []

  pub step-accepted : refusal a step ≡ 0
  unfolding tests
  step-accepted = lent-accepted step refl

  run-accepted : (n : ℕ) → refusal a (run n) ≡ 0
  unfolding tests
  run-accepted n = lent-accepted (run n) refl

  pub after-step : after a step ≡ stepped a
  unfolding after done
  after-step = rw step-accepted

  pub after_run : (n : ℕ) → after a (run n) ≡ steps n a
  unfolding after done
  after_run n = rw (run-accepted n)

  pub stepped-fit : Fit (stepped a)
  stepped-fit = subst Fit after-step (after-fit a step fit)

  pub steps-fit : (n : ℕ) → Fit (steps n a)
  steps-fit n = subst Fit (after_run n) (after-fit a (run n) fit)

  -- A beam step is done.
  pub after-beam : after a (call beam) ≡ perform (beam_step (is_set a.queued) a.side) a
  unfolding after done act_of tests
  after-beam = rw (lent-accepted (call beam) refl)
