-- Laws of XR writes that belong to no one function.
pub mod XrWrites
