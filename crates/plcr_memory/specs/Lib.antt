pub mod Regions
pub mod Faults
pub mod inner
