pub mod Laws
pub mod Symbols
pub mod inner
