-- Definitions that only private functions' contracts cite.
pub mod Jobs
pub mod Saving
pub mod Taking
