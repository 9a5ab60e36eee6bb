pub mod Callers
pub mod Encodings
pub mod Laws
pub mod Permutations
pub mod Sections
pub mod Tables
pub mod inner
