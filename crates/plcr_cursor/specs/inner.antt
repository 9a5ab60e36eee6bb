-- Definitions that only private functions' contracts cite.
pub mod Answering
pub mod Keeping
