pub mod Fields
pub mod Files
pub mod Framed
pub mod Lists
pub mod Results
pub mod Structures
