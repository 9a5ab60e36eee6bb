pub mod Heads
pub mod Segments
pub mod Groups
pub mod Cores
pub mod Reading
pub mod Laws
pub mod FaultTexts
pub mod inner
