pub mod Runs
pub mod Past
pub mod Walks
pub mod inner
