-- Where the stored registers of the XR space stand among the words of the state.
pub mod Places
