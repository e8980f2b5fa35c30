-- From 8 on a kind is a run.
use Prim.Native.Nat.{◌≤◌}
use Rattle.std.proofs.Common.{rules}
use Rattle.sequence.proofs.EventKinds.{from-8-run}
use Rattle.sequence.proofs.EventFromTuple2U8U64.from.Goals as goal

pub returns-in_default : goal.returns-in_default
returns-in_default c =
    let far : 8 ≤ c.args.number.0 = search rules in
    from-8-run c.args.number.0 c.args.number.1 far
