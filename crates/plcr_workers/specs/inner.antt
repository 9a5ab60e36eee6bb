-- Definitions that only private functions' contracts cite.
pub mod Places
pub mod Hired
pub mod Outputs
pub mod Drafts
pub mod Own
pub mod Reports
pub mod Visits
pub mod Moves
pub mod Traces
pub mod Stages
