-- Laws of runs through the running and the queued blit that belong to no one function.
pub mod OneBlitLaws
pub mod TwoBlits
pub mod WholeRuns
