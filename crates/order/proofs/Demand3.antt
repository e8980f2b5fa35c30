-- Demand 3: a started blit is all the pending work there is.
use mathlib.Core.Path.{refl, ap, subst}
use mathlib.Core.Bool.{false, false≢true}
use Prim.Native.Nat.{ℕ}
use Rattle.xosera.specs.State.{is_set}
use Rattle.xosera.specs.Adapter.{Adapter}
use Rattle.calls.specs.Refusals.{Fit, tests}
use Rattle.calls.specs.Calls.{after}
use Rattle.calls.specs.Sequences.{start_with, Starts}
use Rattle.calls.proofs.AfterLaws.{after-fit}
use Rattle.calls.proofs.RefusalLaws.{lent-fit}
use Rattle.calls.proofs.BlitEnds.{EndsOnLastStep, blit-ends-on-its-last-step}
use Rattle.order.specs.Order.{Demand3, AllCalls, starts_none, Keeps, Alike, blit_first}
use Rattle.order.specs.Work.{agreed_work}
use Rattle.order.proofs.CallsApart.{all_map, Patient}
use Rattle.order.proofs.OrderOfWork.{work-first}

-- A start leaves an adapter that is fit to go on.
pub started-fit : (a : Adapter) (b : ℕ) → Starts a b → Fit (after a (start_with b))
unfolding tests
started-fit a b starts = after-fit a (start_with b) (lent-fit a (start_with b) refl starts.accepted)

pub demand-3 : Demand3
unfolding agreed_work
demand-3 a b es starts keeps =
    let s : Adapter = after a (start_with b) in
    let blit : EndsOnLastStep s = blit-ends-on-its-last-step a b starts in
    let patient : AllCalls (Patient false) s es = all_map _ _ (λ _ _ _ queued. absurd (false≢true queued)) es s (keeps starts_none) in
    subst (λ (n : ℕ). Keeps n s es → Alike (agreed_work false) s es s (blit_first n es)) blit.all_left
    (λ k. work-first false s es (started-fit a b starts) (λ _. ap is_set blit.alone) k patient) keeps
