-- A grey line: request 7 of document 02.
pub mod GreyLine
pub mod Claims
