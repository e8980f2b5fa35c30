-- What several words tested at once amount to, and the three parts of the ranges.
pub mod Lanes
pub mod RangeParts
