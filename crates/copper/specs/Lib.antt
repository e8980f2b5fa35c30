-- Which instruction an opcode of the code is.
pub mod Opcodes
