-- What request 2 of document 02 says of the masks in answers.
pub mod Masks
