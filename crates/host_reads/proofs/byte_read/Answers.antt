-- A number that is no register's.
use Rattle.std.proofs.Common.{subst}
use Rattle.xosera.specs.Adapter.{adapter_at}
use Rattle.xosera.specs.Told.{MainRegisterOf}
use Rattle.host_reads.proofs.ReadTables.{no-register}
use Rattle.host_reads.proofs.byte_read.Goals as goal

pub returns-in_default : goal.returns-in_default
returns-in_default c =
    let over = subst (MainRegisterOf c.args.reg) c.in_default.is c.try_from.ensures in
    λ v x. no-register (adapter_at c.args.s.now v x) c.args.reg over.0 c.args.odd
