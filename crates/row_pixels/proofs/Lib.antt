-- Painting: the laws of filled parts, and of a row in its window.
pub mod FillLaws
pub mod RowLaws
