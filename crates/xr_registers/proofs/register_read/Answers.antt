-- A register with no word reads 0.
use Rattle.std.proofs.Common.{arith}
use Rattle.xr_registers.proofs.Registers.{read-unstored}
use Rattle.xr_registers.proofs.register_read.Goals as goal

pub returns-in-None : goal.returns-in-None
returns-in-None c = grind (arith, read-unstored c.args.s.now)
