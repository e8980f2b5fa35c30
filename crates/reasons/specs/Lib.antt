-- Why a nibble of VRAM is as it is: request 5 of document 02.
pub mod Account
pub mod WhyCall
pub mod Examples
pub mod Claims
