-- The arms of one register.
use Rattle.std.proofs.Common.{◌≡◌, arith}
use Rattle.xosera.specs.HostBytes.{read_byte}
use Rattle.access.proofs.read.Goals as goal

pub returns-in-false-Ok-Timer : goal.returns-in-false-Ok-Timer
unfolding read_byte
returns-in-false-Ok-Timer c =
    let reg : c.args.reg ≡ 2 = grind arith in
    rw (c.in-false-Ok-Timer.is-0, reg) (c.save.ensures _ _)

pub returns-in-true-Ok-Xdata : goal.returns-in-true-Ok-Xdata
unfolding read_byte
returns-in-true-Ok-Xdata c =
    let reg : c.args.reg ≡ 5 = grind arith in
    rw (c.in-true-Ok-Xdata.is-0, reg) (c.read.ensures _)
