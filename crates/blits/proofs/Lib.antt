-- A blit step by step.
pub mod BlitSteps
pub mod BlitsHold
