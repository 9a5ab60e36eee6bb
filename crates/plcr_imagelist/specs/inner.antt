-- Definitions that only private functions and the parts of types cite, and the proofs that a type owes
-- to its trait.
pub mod Keeping
pub mod Making
pub mod Holding
pub mod Indexing
pub mod SameWalk
