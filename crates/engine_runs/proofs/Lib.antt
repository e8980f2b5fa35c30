-- Laws of runs of words that belong to no one function.
pub mod Runs
