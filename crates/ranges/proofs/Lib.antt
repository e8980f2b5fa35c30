-- What every test of a range is answered by.
pub mod RangeTests
pub mod LaneTests
pub mod AllParts
