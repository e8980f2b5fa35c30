-- Refused, or as many words as are left.
use mathlib.Core.Path.{ap, ◌∙◌}
use Prim.Native.Nat.{ℕ}
use Rattle.xosera.specs.Adapter.{adapter_at}
use Rattle.xosera.specs.Blitter.{nth_mask}
use Rattle.xosera.specs.Acts.{done, given, wrote}
use Rattle.calls.proofs.Promised.{performed}
use Rattle.refusals.proofs.Accepted.{lent-refused, lent-accepted, accepted-fit}
use Rattle.refusals.proofs.RefusalOrder.{a-run}
use Rattle.adapter_steps.proofs.blit_run.Goals as goal

pub returns-in_err-lent_refusal-clause-done : goal.returns-in_err-lent_refusal-clause-done
returns-in_err-lent_refusal-clause-done c =
    lent-refused _ _ _ a-run _ c.in_err-lent_refusal.ensures _ c.from_residual.ensures.1 _

pub run-requires-clause-vram_value : goal.run-requires-clause-vram_value
run-requires-clause-vram_value c = (accepted-fit _ _ _ c.in_ok-lent_refusal.ensures).vram

pub run-requires-clause-s_value : goal.run-requires-clause-s_value
run-requires-clause-s_value c = (accepted-fit _ _ _ c.in_ok-lent_refusal.ensures).state

pub returns-clause-done : goal.returns-clause-done
unfolding done given wrote
returns-clause-done c =
    let a = c.args in
    let told = c.run.ensures in
    let count = told.count a.xr.now in
    let mask = told.mask a.xr.now ∙ ap (λ (k : ℕ). nth_mask k (adapter_at a.s.now a.vram.now a.xr.now)) count in
    performed _ _ _ _ _ (lent-accepted _ _ _ a-run c.in_ok-lent_refusal.ensures) count mask (told.after a.xr.now)
