-- A grey line: its promise by that of a painting, and the claims.
pub mod Promised
pub mod ClaimsHold
