-- Grey levels: examples and claims, and the rule of the table.
pub mod ExamplesHold
pub mod ClaimsHold
pub mod TableRule
