-- Request 2 of the calls themselves: a step that is done wrote the nibbles that it answers, and a run answers the mask of the last of
-- as many steps.
use mathlib.Core.Path.{◌≡◌, refl, sym, ap, subst₂, ◌∙◌}
use mathlib.Core.Bool.{true}
use mathlib.Core.List.{List, map}
use Prim.Native.Nat.{ℕ, zero, suc}
use lib.ListN.{get_or, replicate}
use Rattle.xosera.specs.State.{is_set}
use Rattle.xosera.specs.Adapter.{Adapter}
use Rattle.xosera.specs.Blitter.{stepped, steps}
use Rattle.xosera.specs.Events.{Answer, step, run}
use Rattle.calls.specs.Refusals.{Fit, tests}
use Rattle.calls.specs.Calls.{answer}
use Rattle.calls.specs.Sequences.{all_answers}
use Rattle.calls.proofs.RefusalLaws.{lent-fit}
use Rattle.calls.proofs.FitLaws.{after-step, after_run, stepped-fit}
use Rattle.calls.specs.Promises.{Does}
use Rattle.masks.specs.Masks.{WroteNibbles}
use Rattle.masks.proofs.AnsweredMasks.{masks}
use Rattle.sequence.specs.Played.{Played}
use Rattle.sequence.proofs.StepsOfCalls.{does-accepted}

pub step-wrote-its-mask : {a b : Adapter} {told : Answer} → Does a step told b → told.refusal ≡ 0 → is_set a.engine.running ≡ true
    → WroteNibbles a told.mask b
step-wrote-its-mask {a} d ok on =
    subst₂ (λ (x : Answer) (c : Adapter). WroteNibbles a x.mask c) (sym d.answers) (sym d.leaves) (masks.stepped a (does-accepted d ok) on)

-- The masks of some answers by their place, and that of step k + 1 in a list of steps.
abbrev mask_at : ℕ → List Answer → ℕ
mask_at k told = get_or (map (λ (x : Answer). x.mask) told) k 0

mask_at_lem : (k : ℕ) (a : Adapter) → Fit a → mask_at k (all_answers a (replicate (suc k) step)) ≡ (answer (steps k a) step).mask
unfolding all_answers steps
mask_at_lem zero a fit = refl
mask_at_lem (suc k) a fit =
    ap (λ (b : Adapter). mask_at k (all_answers b (replicate (suc k) step))) (after-step a fit) ∙ mask_at_lem k (stepped a) (stepped-fit a fit)

pub run-answers-its-last-mask : {a b c : Adapter} {n k : ℕ} {told : Answer} {each : List Answer} → Does a (run n) told b → told.refusal ≡ 0
    → told.value ≡ suc k → Played a (replicate (suc k) step) each c → told.mask ≡ mask_at k each
unfolding tests
run-answers-its-last-mask {a} {n = n} {k} d ok counts p =
    let fit : Fit a = lent-fit a (run n) refl (does-accepted d ok) in
    ap (λ (x : Answer). x.mask) d.answers ∙ masks.ran a n k (sym (ap (λ (x : Answer). x.value) d.answers) ∙ counts)
    ∙ rw (after_run a fit k) (sym (mask_at_lem k a fit)) ∙ ap (mask_at k) (sym p.answered)
