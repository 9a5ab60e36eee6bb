pub mod Exact
pub mod Kept
pub mod Numbered
pub mod Offered
pub mod Reported
pub mod Saved
pub mod Takings
