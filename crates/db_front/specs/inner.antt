pub mod Copies
pub mod FrontRule
pub mod Plays
pub mod Seats
