-- What the inner functions of the account mean.
pub mod Reaches
pub mod Progress
