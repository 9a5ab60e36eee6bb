pub mod Names
pub mod Places
pub mod States
pub mod Frames
pub mod Outcomes
