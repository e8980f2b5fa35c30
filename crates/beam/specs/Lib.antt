-- The beam's part of a beam step.
pub mod Arrival
