pub mod Lines
pub mod Turns
pub mod Views
pub mod Rule
pub mod Working
pub mod Journals
pub mod Gathering
pub mod inner
