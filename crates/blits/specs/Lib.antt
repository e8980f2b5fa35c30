-- One blit by itself.
pub mod Blits
