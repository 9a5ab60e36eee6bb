pub mod Shares
pub mod Passes
pub mod Halves
pub mod Orders
pub mod Searches
pub mod Ranges
pub mod Numbers
pub mod Fronts
