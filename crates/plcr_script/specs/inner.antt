-- Definitions that no public clause cites.
pub mod Fits
pub mod Keys
pub mod Names
pub mod Wording
