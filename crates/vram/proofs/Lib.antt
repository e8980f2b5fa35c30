-- Laws of the memories that belong to no one function.
pub mod Lengths
pub mod StoredWord
pub mod Powers
