-- Definitions that only private functions' contracts cite.
pub mod Carrying
pub mod Keeping
pub mod Searches
