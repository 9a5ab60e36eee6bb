pub mod Appended
pub mod Chained
pub mod Gained
pub mod Plain
pub mod Risen
pub mod Words
