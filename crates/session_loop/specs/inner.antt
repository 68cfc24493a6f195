pub mod Awake
pub mod Endings
pub mod Halted
pub mod PollParts
pub mod Rest
pub mod Tasks
pub mod Turns
