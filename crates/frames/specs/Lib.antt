-- What request 3 of document 02 says of whole frames and of a stopped copper.
pub mod Frames
