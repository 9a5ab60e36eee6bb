pub mod GroupSteps
pub mod FramedCommands
pub mod Kept
pub mod Fronts
pub mod SoFar
pub mod Parts
pub mod WholeThreads
pub mod LaidOut
