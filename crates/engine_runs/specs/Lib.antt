-- What runs inside one blit come to.
pub mod Progress
