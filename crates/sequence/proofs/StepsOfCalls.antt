-- Demand 2 of the calls themselves: a blit step does one word, a blit of W words by L lines ends on step W x L and no sooner,
-- and a run counts the smaller of n and the words left and leaves the rest.
use mathlib.Core.Path.{◌≡◌, sym, ap, ◌∙◌}
use mathlib.Core.Bool.{true, false}
use mathlib.Core.List.{List, [], append-nil}
use Prim.Native.Nat.{ℕ, ◌-◌, ◌≤◌, ◌<◌, min}
use native.Mathlib.Omega.{arith}
use lib.ListN.{replicate}
use Rattle.xosera.specs.State.{is_set}
use Rattle.xosera.specs.Adapter.{Adapter}
use Rattle.xosera.specs.Blitter.{drawn, steps, words_left}
use Rattle.xosera.specs.Events.{Event, Answer, step, run}
use Rattle.calls.specs.Refusals.{refusal}
use Rattle.xosera.specs.Acts.{done, given}
use Rattle.calls.specs.Calls.{after, answer}
use Rattle.calls.specs.Sequences.{start_with, Starts, words_of, after_all}
use Rattle.calls.proofs.RefusalLaws.{accepted-in-range}
use Rattle.xosera.proofs.StepCases.{stepped-vram}
use Rattle.calls.proofs.BlitEnds.{blit-ends-on-its-last-step}
use Rattle.xosera.proofs.StepLaws.{steps-left, running-some-left, idle-none-left}
use Rattle.calls.specs.Promises.{Does}
use Rattle.order.proofs.OrderOfWork.{steps-first-end}
use Rattle.order.proofs.Demand3.{started-fit}
use Rattle.sequence.specs.Played.{Played}

-- What a call that was done promises.
module _ {a b : Adapter} {e : Event} {told : Answer} (d : Does a e told b) (ok : told.refusal ≡ 0) where
  pub does-accepted : refusal a e ≡ 0
  unfolding answer
  does-accepted = sym (ap (λ (x : Answer). x.refusal) d.answers) ∙ ok

  does-gives : told.value ≡ given a e
  unfolding answer
  does-gives = ap (λ (x : Answer). x.value) d.answers ∙ rw does-accepted

  does-leaves : b ≡ done a e
  unfolding after
  does-leaves = d.leaves ∙ rw does-accepted

-- A step on a running engine draws the engine's next word and no other, and counts 1; on an idle one it counts 0.
pub step-draws-one-word : {a b : Adapter} {told : Answer} → Does a step told b → told.refusal ≡ 0 → is_set a.engine.running ≡ true
    → (told.value ≡ 1) × (b.vram ≡ drawn a.engine a.vram)
unfolding done given
step-draws-one-word {a} d ok r = (
  does-gives d ok ∙ one (running-some-left a (accepted-in-range a step (does-accepted d ok)) r),
  ap (λ (c : Adapter). c.vram) (does-leaves d ok) ∙ stepped-vram a r,
)
  where
    one : 0 < words_left a → min 1 (words_left a) ≡ 1
    one h = omega arith

pub idle-step-draws-none : {a b : Adapter} {told : Answer} → Does a step told b → told.refusal ≡ 0 → is_set a.engine.running ≡ false
    → told.value ≡ 0
unfolding given
idle-step-draws-none {a} d ok r = does-gives d ok ∙ none (idle-none-left a (accepted-in-range a step (does-accepted d ok)) r)
  where
    none : words_left a ≡ 0 → min 1 (words_left a) ≡ 0
    none h = omega arith

-- After a start, n calls of a blit step leave the engine running below W x L and idle from there on.
pub blit-ends-on-its-last-call : (a c : Adapter) (b n : ℕ) (told : List Answer) → Starts a b →
    let s = after a (start_with b) in
    Played s (replicate n step) told c →
    (n < words_of s → is_set c.engine.running ≡ true) × (words_of s ≤ n → is_set c.engine.running ≡ false)
unfolding after_all
blit-ends-on-its-last-call a c b n told starts p =
    let s : Adapter = after a (start_with b) in
    let ends = blit-ends-on-its-last-step a b starts in
    let there : c ≡ steps n s =
    p.leaves ∙ ap (after_all s) (sym (append-nil (replicate n step)))
    ∙ steps-first-end n s [] (started-fit a b starts) in
    let same : is_set c.engine.running ≡ is_set (steps n s).engine.running = ap (λ (x : Adapter). is_set x.engine.running) there in
    (λ h. same ∙ ends.runs n h, λ h. same ∙ ends.over n h)

-- A run counts the smaller of n and the words left, and that many fewer are left, for any n.
pub run-counts-words-left : {a b : Adapter} {n : ℕ} {told : Answer} → Does a (run n) told b → told.refusal ≡ 0
    → (told.value ≡ min n (words_left a)) × (words_left b ≡ words_left a - n)
unfolding done given
run-counts-words-left {a} {n = n} d ok = (
  does-gives d ok,
  ap words_left (does-leaves d ok) ∙ steps-left n a (accepted-in-range a (run n) (does-accepted d ok)),
)
