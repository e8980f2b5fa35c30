-- All pending work may as well be done first: the list without its steps then ends and answers as the list does.
use mathlib.Core.Path.{◌≡◌, refl, sym, ap, ◌∙◌}
use mathlib.Core.Bool.{Bool, false}
use mathlib.Core.List.{List, ◌∷◌, ◌++◌}
use Prim.Native.Nat.{ℕ, zero, suc}
use lib.ListN.{replicate}
use Rattle.xosera.specs.State.{is_set}
use Rattle.xosera.specs.Adapter.{Adapter}
use Rattle.xosera.specs.Blitter.{stepped, steps, words_left}
use Rattle.xosera.specs.Events.{Event, step}
use Rattle.calls.specs.Refusals.{Fit}
use Rattle.calls.specs.Calls.{after}
use Rattle.calls.specs.Sequences.{after_all}
use Rattle.calls.proofs.FitLaws.{stepped-fit, after-step}
use Rattle.order.specs.Order.{without_steps, AllCalls, Keeps, enough_steps, answers, but_bit6, Alike, blit_first}
use Rattle.order.specs.Work.{agreed_work, OrderOfWork}
use Rattle.order.proofs.Finish.{finished, finished-finishes}
use Rattle.order.proofs.CallsApart.{Patient, all_map, keeps-apart}
use Rattle.order.proofs.EventLists.{in-any-order}

-- n blit steps and then a list, for what passes over a blit step.
steps_first {ℓ} : {B : Type ℓ} (f : Adapter → List Event → B) → ((a : Adapter) (es : List Event) → f a (step ∷ es) ≡ f (after a step) es) →
    (n : ℕ) (a : Adapter) (fs : List Event) → Fit a → f a (replicate n step ++ fs) ≡ f (steps n a) fs
unfolding steps
steps_first f passes zero a fs fit = refl
steps_first f passes (suc n) a fs fit =
    passes a (replicate n step ++ fs)
    ∙ ap (λ (b : Adapter). f b (replicate n step ++ fs)) (after-step a fit) ∙ steps_first f passes n (stepped a) fs (stepped-fit a fit)

pub steps-first-end : (n : ℕ) (a : Adapter) (fs : List Event) → Fit a → after_all a (replicate n step ++ fs) ≡ after_all (steps n a) fs
unfolding after_all
steps-first-end n a fs fit = steps_first after_all (λ _ _. refl) n a fs fit

-- Both for a blit that is queued at first and for none: `full` says whether one may be.
pub work-first : (full : Bool) (a : Adapter) (es : List Event) → Fit a → (full ≡ false → is_set a.queued ≡ false) → Keeps (words_left a) a es →
    AllCalls (Patient full) a es → Alike (agreed_work full) a es a (blit_first (words_left a) es)
unfolding blit_first
work-first full a es fit alone keeps patient =
    let n : ℕ = words_left a in
    let alike : Alike (agreed_work full) a es (finished a) (without_steps es) =
    in-any-order es a (finished a) (record {
      finishes = finished-finishes a fit alone;
      within = record { unread = λ w h. h; unwritten = λ w h. h };
      words_left = keeps enough_steps;
    }) (keeps-apart full n a es keeps patient) in
    record {
      ends = alike.ends ∙ ap but_bit6 (sym (steps-first-end n a (without_steps es) fit));
      answer-alike = alike.answer-alike ∙ sym (steps_first (answers (agreed_work full)) (λ _ _. refl) n a (without_steps es) fit);
    }

pub order-of-work : OrderOfWork
order-of-work a es fit keeps patient = work-first (is_set a.queued) a es fit (λ none. none) keeps (all_map _ _ (λ b c tries _. tries) es a patient)
