-- A saved adapter: the file, the two calls that write and read it, and what is claimed of them.
pub mod SavedFile
pub mod SaveLoad
pub mod Claims
