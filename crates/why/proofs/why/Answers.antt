-- Refused: the refusal has the number that applies.
use native.Mathlib.Omega.{arith}
use Rattle.std.proofs.lemmas.Result.{err_from_is_err_and}
use Rattle.xosera.proofs.Results.{some_number}
use Rattle.reasons.proofs.RefusalOrder.{in_order}
use Rattle.why.proofs.why.Goals as goal

pub returns-in_err-spot : goal.returns-in_err-spot
returns-in_err-spot c =
    let p = err_from_is_err_and c.from_residual.result c.from_residual.ensures.1 in
    let x = c.in_err-spot.ensures in
    rw (p.1, p.2) (grind (arith, in_order, some_number))
