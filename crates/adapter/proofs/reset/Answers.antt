-- All words 0 but two.
use mathlib.Core.Path.{refl}
use Rattle.xosera.specs.State.{state_at}
use Rattle.adapter.proofs.reset.Goals as goal

pub returns : goal.returns
unfolding state_at
returns c = refl
