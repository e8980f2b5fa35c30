-- Painting a line.
pub mod LinePainted
pub mod Promised
