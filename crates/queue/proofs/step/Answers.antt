-- Nothing, the last word of a blit, or another of its words.
use Rattle.std.proofs.Common.{sym, ◌∙◌}
use Rattle.xosera.specs.State.{state_at}
use Rattle.xosera.specs.Adapter.{adapter_at}
use Rattle.xosera.proofs.StepCases.{stepped-idle, idle-mask}
use Rattle.queue.proofs.OneStep.{on, step-wrote, step-ends, step-goes-on, counts-none, counts-one}
use Rattle.queue.proofs.step.Goals as goal
use Rattle.queue.proofs.step.Goals.{then-last_step, else-last_step}

pub returns-in_default : goal.returns-in_default
returns-in_default c =
    let s = state_at c.args.s.now in
    let v = c.args.vram.now in
    let off = c.in_default.ensures in
    record {
      after = λ x. sym (stepped-idle (adapter_at c.args.s.now v x) off);
      count = λ x. c.default.ensures.0 ∙ counts-none s v x c.requires.s_value off;
      mask = λ x. c.default.ensures.1 ∙ sym (idle-mask (adapter_at c.args.s.now v x) off);
    }

pub returns : goal.returns
returns c =
    let s = state_at c.args.s.now in
    let v = c.args.vram.now in
    let b = c.in-Some.blit in
    let here = c.in-Some.ensures in
    let one = c.draw-drawn.ensures in
    record {
      after = elim c.if-last_step.branch [
        | then-last_step w ↦ rw w.s-is (step-ends s v b here one (sym w.if-last_step.ensures) w.end_blit.ensures)
        | else-last_step w ↦ rw w.s-is (step-goes-on s v b here one (sym w.if-last_step.ensures) w.advance.ensures w.move_on.ensures)
      ];
      count = λ x. counts-one s v x c.requires.s_value (on s b here);
      mask = step-wrote s v b here one c.gathered.ensures;
    }
