-- The lengths first, then the state.
use mathlib.Core.Path.{◌∙◌}
use Rattle.xosera.specs.State.{state_at}
use Rattle.xosera.proofs.Results.{done-refuses, error-refuses, error-handed-on}
use Rattle.refusals.proofs.RefusalOrder.{lengths-first, lengths-passed}
use Rattle.refusals.proofs.lent_refusal.Goals as goal

pub returns-in_err-lengths_refusal : goal.returns-in_err-lengths_refusal
returns-in_err-lengths_refusal c =
    let was = c.in_err-lengths_refusal.was in
    error-handed-on was _ c.from_residual.ensures.1
    ∙ lengths-first _ _ (state_at c.args.s.now) c.lengths_refusal.ensures (error-refuses was)

pub returns : goal.returns
returns c =
    c.state_refusal.ensures
    ∙ lengths-passed _ _ (state_at c.args.s.now) c.lengths_refusal.ensures (done-refuses c.in_ok-lengths_refusal.was)
