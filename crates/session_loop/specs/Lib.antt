pub mod Causes
pub mod Outcome
pub mod Polls
pub mod Words
pub mod inner
