-- What a write to XR_COPP_CTRL does to the copper.
pub mod Stops
