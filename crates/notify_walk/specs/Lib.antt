pub mod Fired
pub mod inner
