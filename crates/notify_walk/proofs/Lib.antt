pub mod Firings
pub mod Parts
pub mod Walked
