-- Grey levels: request 7 of document 02.
pub mod Grey
pub mod LevelTable
pub mod Examples
pub mod Claims
