pub mod Reads
pub mod SetView
