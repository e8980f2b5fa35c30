-- Laws of a start, a step and a blit's end that belong to no one function.
pub mod Starts
pub mod OneStep
