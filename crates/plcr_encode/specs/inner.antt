-- Definitions that only private functions' contracts cite.
pub mod FrameRows
pub mod Groups
pub mod Lookups
pub mod Rows
