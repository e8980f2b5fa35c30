-- Laws of byte reads that belong to no one function.
pub mod ReadTables
