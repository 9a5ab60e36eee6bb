pub mod Cells
pub mod Leb128
pub mod inner
