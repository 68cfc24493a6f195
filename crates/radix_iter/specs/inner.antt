pub mod Beside
pub mod LevelRows
pub mod Rests
