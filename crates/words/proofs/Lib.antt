-- Laws of words and nibbles that belong to no one function.
pub mod Colours
pub mod BothWays
pub mod Nibbles
