-- The code is the definition.
use mathlib.Core.Path.{refl}
use Rattle.xosera.specs.Words.{combined}
use Rattle.words.proofs.combined.Goals as goal

pub returns : goal.returns
unfolding combined
returns c = refl
