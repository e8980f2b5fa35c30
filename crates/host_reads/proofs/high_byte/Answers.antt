-- The interrupt mask is a byte.
use mathlib.Core.Path.{◌∙◌}
use Rattle.xosera.specs.State.{state_at}
use Rattle.xosera.specs.HostBytes.{high_byte}
use Rattle.host_reads.proofs.ReadTables.{bytes_of}
use Rattle.host_reads.proofs.high_byte.Goals as goal

pub returns-in-IntCtrl : goal.returns-in-IntCtrl
unfolding state_at high_byte
returns-in-IntCtrl c = rw c.in-IntCtrl.is (c.low_byte.ensures ∙ (bytes_of (state_at c.args.s.now) c.requires).intmask)
