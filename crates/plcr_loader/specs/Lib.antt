pub mod Commands
pub mod Fields
pub mod Sources
pub mod Structures
