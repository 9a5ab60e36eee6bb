pub mod Decoding
pub mod Effects
pub mod Faults
pub mod Runs
pub mod Words
pub mod inner
