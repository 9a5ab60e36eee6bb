-- Definitions that only private functions' contracts cite.
pub mod Fronts
pub mod Keeping
pub mod Settings
pub mod Texts
