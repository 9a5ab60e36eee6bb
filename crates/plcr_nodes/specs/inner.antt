-- Definitions that only private functions and the parts of types cite.
pub mod Words
pub mod Rule
pub mod Plays
pub mod Seats
pub mod Telling
