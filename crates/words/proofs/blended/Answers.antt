-- The spread mask takes whole nibbles.
use Rattle.words.proofs.Nibbles.{merged-bits}
use Rattle.words.proofs.blended.Goals as goal

pub returns : goal.returns
returns c m e = rw e (merged-bits m c.args.old c.args.new c.ranges.old.fits c.ranges.new.fits)
