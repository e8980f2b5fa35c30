-- Laws of the XR space that belong to no one function.
pub mod Parts
