-- Definitions that only private functions' contracts cite.
pub mod Making
pub mod Handing
