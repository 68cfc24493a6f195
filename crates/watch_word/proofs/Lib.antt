pub mod Keys
pub mod Events
pub mod Steps
