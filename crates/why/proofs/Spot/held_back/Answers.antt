-- Each mask lacks the nibbles that it holds back.
use native.Mathlib.Omega.{arith}
use Rattle.masks.proofs.NibbleLaws.{first-mask-bit, last-mask-bit, test-mask-bit}
use Rattle.reasons.specs.Account.{held_back_by}
use Rattle.why.proofs.Spot.held_back.Goals as goal

pub returns : goal.returns
unfolding held_back_by
returns c = grind (arith, first-mask-bit, last-mask-bit, test-mask-bit)
