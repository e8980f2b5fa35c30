-- A list of events, and what calling them one after another gives.
pub mod Played
