-- Proofs that ghost members of this crate cite: no reader has to believe them.
pub mod Shown
