pub mod Answered
pub mod Cells
pub mod Clients
pub mod Counts
pub mod Progress
pub mod Steps
pub mod Waiting
pub mod inner
