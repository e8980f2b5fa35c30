-- What the functions that paint a part of a line promise.
pub mod Fills
pub mod RowParts
