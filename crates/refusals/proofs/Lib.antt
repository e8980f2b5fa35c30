-- Laws of refusals that belong to no one function.
pub mod Accepted
pub mod RefusalOrder
