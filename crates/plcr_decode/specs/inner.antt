-- Definitions that only private functions' contracts cite.
pub mod Entries
pub mod Escapes
pub mod Marks
pub mod Lasts
pub mod Views
pub mod Words
