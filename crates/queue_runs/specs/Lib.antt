-- What some steps of the running blit come to.
pub mod OneBlit
