pub mod AnyPass
pub mod Codes
pub mod Commits
pub mod Passes
pub mod Steps
pub mod inner
pub mod worked
