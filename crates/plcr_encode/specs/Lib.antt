pub mod Conditions
pub mod Frames
pub mod Images
pub mod Values
pub mod inner
