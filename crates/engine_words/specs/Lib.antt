-- The state with another engine.
pub mod Held
