-- What the engine's inner functions mean.
pub mod Drawing
