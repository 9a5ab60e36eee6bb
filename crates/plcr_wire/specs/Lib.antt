pub mod Varint
pub mod Wires
pub mod Message
pub mod Pen
pub mod Reading
pub mod Spelled
pub mod Sinks
pub mod inner
