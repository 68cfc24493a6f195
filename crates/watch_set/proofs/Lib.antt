pub mod CellsDiffer
pub mod ChecksInTurn
pub mod GuardedChains
pub mod Transposed
