-- Laws of the stored registers that belong to no one function.
pub mod Registers
