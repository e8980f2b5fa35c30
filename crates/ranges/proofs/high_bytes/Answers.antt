-- No high byte where the words are bytes.
use Rattle.ranges.proofs.LaneTests.{lanes_bytes}
use Rattle.ranges.proofs.high_bytes.Goals as goal

pub returns : goal.returns
returns c = lanes_bytes _ _ _ _ _ c.four.ensures
