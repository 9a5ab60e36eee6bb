pub mod Numbers
pub mod Segments
pub mod Images
pub mod Stacks
pub mod Cores
pub mod Scripts
pub mod MadeScripts
pub mod Summary
