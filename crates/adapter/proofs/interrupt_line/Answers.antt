-- Refused, or answered; nothing changes.
use mathlib.Core.Path.{refl, sym, ap}
use mathlib.Core.Bool.{Bool, cond}
use Prim.Native.Nat.{ℕ}
use Rattle.xosera.specs.Memories.{stored}
use Rattle.xosera.specs.Plan.{changed, perform}
use Rattle.xosera.specs.Events.{line}
use Rattle.xosera.specs.Acts.{act_of, done, given}
use Rattle.masks.proofs.AnsweredMasks.{call-wrote}
use Rattle.calls.proofs.Promised.{performed}
use Rattle.refusals.proofs.Accepted.{state-refused, state-accepted}
use Rattle.refusals.proofs.RefusalOrder.{a-line}
use Rattle.adapter.proofs.interrupt_line.Goals as goal

pub returns-in_err-state_refusal : goal.returns-in_err-state_refusal
returns-in_err-state_refusal c =
    λ v x. state-refused _ v x a-line _ c.in_err-state_refusal.ensures _ c.from_residual.ensures.1 _

pub returns : goal.returns
unfolding done act_of given perform changed stored
returns c =
    let up = ap {B = ℕ} (λ (b : Bool). cond b 1 0) c.line_up.ensures in
    λ v x. performed _ _ _ 0 _ (state-accepted _ v x a-line c.in_ok-state_refusal.ensures) up (sym (call-wrote _ line)) refl
