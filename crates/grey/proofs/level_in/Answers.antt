-- A nibble of the word, by a shift.
use native.Mathlib.Omega.{arith}
use Rattle.xosera.proofs.Quotients.{nibble-at}
use Rattle.grey.specs.LevelTable.{level_in}
use Rattle.grey.proofs.level_in.Goals as goal

pub returns : goal.returns
unfolding level_in
returns c = nibble-at 15 _ _ (omega arith)
