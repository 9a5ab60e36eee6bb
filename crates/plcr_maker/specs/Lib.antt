pub mod Numerals
pub mod Make
pub mod Laws
pub mod inner
