-- Which nibbles a call wrote.
pub mod NibbleLaws
pub mod AnsweredMasks
