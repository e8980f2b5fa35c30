-- The account as the functions keep it.
pub mod Noting
