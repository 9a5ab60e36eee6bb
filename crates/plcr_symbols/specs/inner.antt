-- Definitions that only private functions' contracts cite.
pub mod Gaps
pub mod Pieces
pub mod Searches
