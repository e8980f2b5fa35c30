-- The lowest bit of a nibble of the spread is the mask's.
use mathlib.Core.Path.{ap, ◌∙◌}
use Prim.Native.Nat.{◌*◌}
use Rattle.xosera.specs.Words.{bit}
use Rattle.words.proofs.Nibbles.{spread-bit}
use Rattle.words.proofs.has_nibble.Goals as goal

pub returns : goal.returns
returns c m e = c.bit.ensures ∙ ap (bit (4 * c.args.k)) e ∙ spread-bit m c.args.k c.requires
