pub mod Chains
pub mod Frames
pub mod Walks
pub mod inner
