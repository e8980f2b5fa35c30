-- Along every list the reference stays the adapter with its pending work done, so both end alike once the list's steps have done
-- it all.
use mathlib.Core.Path.{◌≡◌, refl, sym, ap, ap₂, ◌∙◌}
use mathlib.Core.Bool.{Bool, false}
use mathlib.Core.List.{List, [], ◌∷◌}
use Prim.Native.Nat.{ℕ, suc, ◌+◌, ◌≤◌}
use native.Mathlib.Numerals.{one-add}
use Rattle.xosera.specs.State.{is_set}
use Rattle.xosera.specs.Adapter.{Adapter, state_of}
use Rattle.xosera.specs.Blitter.{steps, words_left}
use Rattle.xosera.specs.Events.{Call, Event, call, step, run}
use Rattle.calls.specs.Refusals.{refusal}
use Rattle.calls.specs.Calls.{answer, after}
use Rattle.calls.specs.Sequences.{after_all}
use Rattle.xosera.proofs.RangeLaws.{in-range-unqueued}
use Rattle.xosera.proofs.StepLaws.{steps-idle, over-after}
use Rattle.calls.proofs.FitLaws.{after-step, after_run}
use Rattle.order.specs.Order.{steps_in, without_steps, AllCalls, answered, but_bit6, Alike}
use Rattle.order.specs.Work.{agreed_work}
use Rattle.order.proofs.Fit.{fit-idle}
use Rattle.order.proofs.Finish.{Finishes, OnCourse, steps-on-course}
use Rattle.order.proofs.CallsApart.{Apart}
use Rattle.order.proofs.CallAcross.{call-on-course, call-refused-alike}
use Rattle.order.proofs.CallAnswers.{status-alike, value-alike, mask-alike}

-- With no work left the adapter and its reference are the same, but for status bit 6.
none-left-alike : {full : Bool} (a r : Adapter) → Finishes full a r → words_left a ≤ 0 → but_bit6 a ≡ but_bit6 r
unfolding but_bit6 steps
none-left-alike a r f none =
    let off : is_set a.engine.running ≡ false = over-after 0 a f.fit.state none in
    λ i. record {
      side = sym f.side i;
      status = sym (status-alike a r f) i;
      queued = (in-range-unqueued (state_of a) f.fit.state off ∙ sym f.unqueued) i;
      engine = (fit-idle a f.fit off ∙ sym f.engine) i;
      vram = (ap (λ (b : Adapter). b.vram) (sym (steps-idle (words_left a) a off)) ∙ sym f.vram) i;
    }

module _ {full : Bool} {reads writes : ℕ → Bool} where
  -- A blit step and a run are so many steps.
  step-on-course : (m : ℕ) (a r : Adapter) → OnCourse full reads writes (suc m) a r → OnCourse full reads writes m (after a step) r
  unfolding steps
  step-on-course m a r h = rw (after-step a h.finishes.fit) (steps-on-course 1 m a r (rw one-add h))

  run-on-course : (n m : ℕ) (a r : Adapter) → OnCourse full reads writes (n + m) a r → OnCourse full reads writes m (after a (run n)) r
  run-on-course n m a r h = rw (after_run a h.finishes.fit n) (steps-on-course n m a r h)

  call-answer : (n : ℕ) (a r : Adapter) (c : Call) → OnCourse full reads writes n a r → Apart full reads writes a c →
      answered (agreed_work full) a c ≡ answered (agreed_work full) r c
  unfolding answer answered
  call-answer n a r c h apart =
      let e : refusal r (call c) ≡ refusal a (call c) = call-refused-alike a r c h apart in
      λ i. record {
        refusal = sym e i;
        value = sym (value-alike a r h.finishes c e) i;
        mask = sym (mask-alike a r h.finishes c e) i;
      }

  pub in-any-order : (es : List Event) (a r : Adapter) → OnCourse full reads writes (steps_in es) a r → AllCalls (Apart full reads writes) a es →
      Alike (agreed_work full) a es r (without_steps es)
  unfolding steps_in without_steps after_all
  in-any-order [] a r h apart = record { ends = none-left-alike a r h.finishes h.words_left; answer-alike = refl }
  in-any-order (call c ∷ es) a r h apart =
      let rest : Alike (agreed_work full) (after a (call c)) es (after r (call c)) (without_steps es) =
      in-any-order es (after a (call c)) (after r (call c)) (call-on-course a r c h apart.0) apart.1 in
      record { ends = rest.ends; answer-alike = ap₂ ◌∷◌ (call-answer (steps_in es) a r c h apart.0) rest.answer-alike }
  in-any-order (step ∷ es) a r h apart =
      let rest : Alike (agreed_work full) (after a step) es r (without_steps es) = in-any-order es (after a step) r (step-on-course (steps_in es) a r h) apart in
      record { ends = rest.ends; answer-alike = rest.answer-alike }
  in-any-order (run n ∷ es) a r h apart =
      let rest : Alike (agreed_work full) (after a (run n)) es r (without_steps es) =
      in-any-order es (after a (run n)) r (run-on-course n (steps_in es) a r h) apart in
      record { ends = rest.ends; answer-alike = rest.answer-alike }
