pub mod WholeRuns
pub mod Running
pub mod Stacks
