pub mod Saved
pub mod Counted
pub mod Played
pub mod Whole
pub mod Digits
pub mod Statuses
