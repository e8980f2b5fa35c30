-- What the words' inner functions mean.
pub mod Spread
