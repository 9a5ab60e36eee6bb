-- Definitions and proofs that no public clause cites.
pub mod Balance
pub mod Tries
