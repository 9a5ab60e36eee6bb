pub mod KnownRegisters
pub mod WholeStates
pub mod Wide
