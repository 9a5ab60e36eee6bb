pub mod Joining
pub mod Texts
pub mod ReadScripts
