-- Definitions that only private functions' contracts cite.
pub mod Changes
pub mod Ending
pub mod Opening
pub mod Reports
pub mod Running
pub mod Slots
pub mod Stepping
pub mod Tokens
