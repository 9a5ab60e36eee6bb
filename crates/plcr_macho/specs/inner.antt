-- Definitions that only private functions' contracts cite.
pub mod Keeping
pub mod Searching
pub mod Windows
