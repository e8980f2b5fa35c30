-- What the tests of a call amount to.
pub mod Tested
