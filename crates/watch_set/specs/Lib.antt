pub mod Checks
pub mod GuardedLooks
pub mod Members
pub mod inner
