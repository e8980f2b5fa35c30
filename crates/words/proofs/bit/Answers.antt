-- A shift right by k and a remainder by 2 is bit k.
use mathlib.Core.Path.{refl}
use Rattle.xosera.specs.Words.{bit}
use Rattle.words.proofs.bit.Goals as goal

pub returns : goal.returns
unfolding bit
returns c = refl
