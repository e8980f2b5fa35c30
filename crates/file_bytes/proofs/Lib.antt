-- Laws of copies.
pub mod CopyLaws
