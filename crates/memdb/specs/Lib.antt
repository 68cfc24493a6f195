pub mod Causes
pub mod CheckOutcome
pub mod Made
pub mod Outcome
pub mod RunsPass
pub mod Words
pub mod inner
pub mod worked
