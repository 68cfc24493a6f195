pub mod Cells
pub mod Facts
pub mod Futures
pub mod NotedWatches
pub mod Polls
pub mod inner
