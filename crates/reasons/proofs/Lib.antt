-- Why a nibble is as it is: the examples, and that the reasons given are true.
pub mod ExamplesHold
pub mod AccountLaws
pub mod NibbleValues
pub mod ReasonsHold
pub mod NumbersTell
pub mod RefusalOrder
pub mod ClaimsHold
