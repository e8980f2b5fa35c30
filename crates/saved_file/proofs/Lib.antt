-- Laws of a saved adapter. `SavedAdapters` has those that requests 1 and 3 name.
pub mod ByteLaws
pub mod SameLaws
pub mod RestLaws
pub mod SavedLaws
pub mod SavedAdapters
