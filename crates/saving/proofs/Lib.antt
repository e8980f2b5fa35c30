-- Saves and loads that keep their promises.
pub mod Promised
pub mod SavesAndLoads
