-- Laws of the copper that belong to no one function.
pub mod CopperActs
