-- Document 01 as definitions, with document 02's beam and copper, in an order in which each module uses only those before it.
-- `Fields` also has the fields of GFX_CTRL, which request 6 reads.
pub mod State
pub mod Words
pub mod Fields
pub mod Beam
pub mod Memories
pub mod Adapter
pub mod Blitter
pub mod Plan
pub mod XrSpace
pub mod Copper
pub mod HostBytes
pub mod TimerTick
pub mod Told
pub mod Events
pub mod Ranges
pub mod Acts
pub mod Sessions
pub mod BlitExamples
pub mod HostExamples
pub mod BeamExamples
