-- A scanline of playfield A: the examples, and what a painted line depends on.
pub mod ExamplesHold
pub mod LineLaws
pub mod RegistersTaken
pub mod PixelLaws
pub mod RefusalOrder
pub mod ClaimsHold
