pub mod Callers
pub mod Saved
