-- 1 to 3, then 4.
use mathlib.Core.Path.{◌∙◌}
use Rattle.xosera.specs.State.{state_at}
use Rattle.xosera.proofs.Results.{done-refuses, error-refuses, error-handed-on}
use Rattle.refusals.proofs.RefusalOrder.{read_first, read-register}
use Rattle.refusals.proofs.read_refusal.Goals as goal

pub returns-in_err-lent_refusal-clause-number : goal.returns-in_err-lent_refusal-clause-number
returns-in_err-lent_refusal-clause-number c =
    let r = c.args in
    let was = c.in_err-lent_refusal.was in
    λ v x odd p q. error-handed-on was _ c.from_residual.ensures.1
    ∙ read_first (state_at r.s.now) v x p q c.lent_refusal.ensures r.reg odd (error-refuses was)

pub returns-clause-number : goal.returns-clause-number
returns-clause-number c =
    let r = c.args in
    λ v x odd p q. read-register (state_at r.s.now) v x p q c.lent_refusal.ensures (done-refuses c.in_ok-lent_refusal.was) r.reg odd _ c.try_from.ensures
