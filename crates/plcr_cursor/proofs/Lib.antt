pub mod Chained
pub mod Answered
pub mod Locating
