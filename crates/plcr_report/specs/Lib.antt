pub mod Messages
pub mod Schema
pub mod Spelling
pub mod Constants
