-- The order of things, stated over the definitions of crate xosera.
pub mod Order
pub mod Work
pub mod Witness
pub mod Needed
