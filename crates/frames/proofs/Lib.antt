-- Whole frames, and a stopped copper.
pub mod FrameLaws
pub mod FramesHold
