-- Nothing of no steps or on an idle engine; else all steps but the last, then the last.
use Rattle.std.proofs.Common.{◌≡◌, true, List, [], ℕ, suc, ◌-◌, min, sym, ap, ◌∙◌, arith}
use Rattle.xosera.specs.declared.Engine.{Engine}
use Rattle.xosera.specs.State.{state_at}
use Rattle.xosera.specs.Adapter.{Adapter, adapter_at}
use Rattle.xosera.specs.Blitter.{fetched, drawing, nth_mask, step_mask, words_left}
use Rattle.xosera.specs.Ranges.{in_range}
use Rattle.xosera.proofs.StepCases.{idle-mask, running-mask}
use Rattle.queue.proofs.OneStep.{on}
use Rattle.queue_runs.proofs.WholeRuns.{none_done, last-wrote, all_done, still-in-range}
use Rattle.queue_runs.proofs.run.Goals as goal
use Rattle.queue_runs.proofs.run.Goals.{After-min-count, After-run_both, in-Some, in-None}

abbrev here : After-min-count → List ℕ → Adapter
here c x = adapter_at c.args.s.now c.args.vram.now x

counted : (c : After-min-count) (x : List ℕ) → c.min-count.result ≡ min c.args.n (words_left (here c x))
counted c x = c.min-count.ensures ∙ ap (min c.args.n) (c.words_left.ensures c.args.vram.now x)

pub returns-then-count-eq0-clause-after : goal.returns-then-count-eq0-clause-after
returns-then-count-eq0-clause-after c x =
    let d = (goal.at.returns-then-count-eq0-clause-after c).After-min-count in
    none_done (here d x) c.requires.s_value c.args.n (counted d x) c.if-count-eq0.true

pub returns-then-count-eq0-clause-mask : goal.returns-then-count-eq0-clause-mask
unfolding nth_mask
returns-then-count-eq0-clause-mask c x = rw (c.default.ensures.0, c.default.ensures.1)

some : (c : After-run_both) → suc (c.min-count.result - 1) ≡ c.min-count.result
some c = omega (arith, c.if-count-eq0.false)

fit : (c : After-run_both) → in_range (state_at c.run_both.new.s) ≡ true
fit c =
    let d = (goal.at.After-run_both c).After-min-count in
    still-in-range (here d []) c.requires.s_value c.args.n (counted d []) (some c) (c.run_both.ensures [])

pub running_blit-requires : goal.running_blit-requires
running_blit-requires c = fit (goal.at.running_blit-requires c).After-run_both

pub run_both-requires-2-clause-s_value : goal.run_both-requires-2-clause-s_value
run_both-requires-2-clause-s_value c = fit (goal.at.run_both-requires-2-clause-s_value c).After-run_both

pub returns-clause-after : goal.returns-clause-after
returns-clause-after c x =
    let d = (goal.at.returns-clause-after c).After-min-count in
    let one = some (goal.at.returns-clause-after c).After-run_both in
    all_done (here d x) c.requires.s_value c.args.n (counted d x) one (c.run_both.ensures x) (c.run_both-2.ensures x)

pub returns-clause-mask : goal.returns-clause-mask
returns-clause-mask c x =
    let d = (goal.at.returns-clause-mask c).After-min-count in
    let one = some (goal.at.returns-clause-mask c).After-run_both in
    let s = state_at c.run_both.new.s in
    let v = c.run_both.new.vram in
    let a = adapter_at c.run_both.new.s v x in
    let last : c.match-running_blit.mask ≡ step_mask a = elim c.match-running_blit.branch [
      | in-Some w ↦ w.mask-is ∙ w.next_mask-mask.ensures ∙ ap (λ (e : Engine). (drawing e (fetched e v)).mask) w.in-Some.ensures
          ∙ sym (running-mask a (on s w.in-Some.blit w.in-Some.ensures))
      | in-None w ↦ w.mask-is ∙ sym (idle-mask a w.in-None.ensures)
    ] in
    last-wrote (here d x) c.requires.s_value c.args.n (counted d x) one (c.run_both.ensures x) last
