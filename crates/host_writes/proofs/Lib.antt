-- Laws of the latches that belong to no one function.
pub mod Latches
