-- The nibble mask, the interrupt status and the byte saved are bytes.
use mathlib.Core.Path.{◌∙◌}
use Rattle.xosera.specs.State.{state_at}
use Rattle.xosera.specs.HostBytes.{low_byte}
use Rattle.host_reads.proofs.ReadTables.{bytes_of}
use Rattle.host_reads.proofs.low_byte.Goals as goal

pub returns-in-SysCtrl : goal.returns-in-SysCtrl
unfolding state_at low_byte
returns-in-SysCtrl c = rw c.in-SysCtrl.is (c.low_byte.ensures ∙ (bytes_of (state_at c.args.s.now) c.requires).nibbles)

pub returns-in-IntCtrl : goal.returns-in-IntCtrl
unfolding state_at low_byte
returns-in-IntCtrl c = rw c.in-IntCtrl.is (c.low_byte-in-IntCtrl.ensures ∙ (bytes_of (state_at c.args.s.now) c.requires).status)

pub returns-in-Timer : goal.returns-in-Timer
unfolding state_at low_byte
returns-in-Timer c = rw c.in-Timer.is (c.low_byte-in-Timer.ensures ∙ (bytes_of (state_at c.args.s.now) c.requires).saved)
