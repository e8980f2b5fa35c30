-- Refused, or done.
use mathlib.Core.Path.{refl, sym}
use Rattle.xosera.specs.Events.{tick}
use Rattle.xosera.specs.Acts.{act_of, done, given}
use Rattle.masks.proofs.AnsweredMasks.{call-wrote}
use Rattle.calls.proofs.Promised.{performed}
use Rattle.refusals.proofs.Accepted.{state-refused, state-accepted}
use Rattle.refusals.proofs.RefusalOrder.{a-tick}
use Rattle.adapter_steps.proofs.timer_tick.Goals as goal

pub returns-in_err-state_refusal-clause-done : goal.returns-in_err-state_refusal-clause-done
returns-in_err-state_refusal-clause-done c =
    λ v x. state-refused _ v x a-tick _ c.in_err-state_refusal.ensures _ c.from_residual.ensures.1 _

pub returns-clause-done : goal.returns-clause-done
unfolding done act_of given
returns-clause-done c =
    λ v x. performed _ _ 0 0 _ (state-accepted _ v x a-tick c.in_ok-state_refusal.ensures) refl (sym (call-wrote _ tick)) (c.tick.ensures v x)
