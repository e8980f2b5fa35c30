-- A scanline of playfield A: request 6 of document 02.
pub mod Scanline
pub mod PaintCall
pub mod Examples
pub mod Claims
