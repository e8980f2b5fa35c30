-- Refused, or one word, or none on an idle engine.
use Rattle.xosera.specs.Acts.{done, given, wrote}
use Rattle.calls.proofs.Promised.{performed}
use Rattle.refusals.proofs.Accepted.{lent-refused, lent-accepted, accepted-fit}
use Rattle.refusals.proofs.RefusalOrder.{a-step}
use Rattle.adapter_steps.proofs.blit_step.Goals as goal

pub returns-in_err-lent_refusal-clause-done : goal.returns-in_err-lent_refusal-clause-done
returns-in_err-lent_refusal-clause-done c =
    lent-refused _ _ _ a-step _ c.in_err-lent_refusal.ensures _ c.from_residual.ensures.1 _

pub step-requires-clause-vram_value : goal.step-requires-clause-vram_value
step-requires-clause-vram_value c = (accepted-fit _ _ _ c.in_ok-lent_refusal.ensures).vram

pub step-requires-clause-s_value : goal.step-requires-clause-s_value
step-requires-clause-s_value c = (accepted-fit _ _ _ c.in_ok-lent_refusal.ensures).state

pub returns-clause-done : goal.returns-clause-done
unfolding done given wrote
returns-clause-done c =
    let x = c.args.xr.now in
    let told = c.step.ensures in
    performed _ _ _ _ _ (lent-accepted _ _ _ a-step c.in_ok-lent_refusal.ensures) (told.count x) (told.mask x) (told.after x)
