-- The bench table and the examples hold.
pub mod TableHolds
pub mod ComputedTables
