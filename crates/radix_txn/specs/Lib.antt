pub mod Codes
pub mod Drawn
pub mod Kept
pub mod Notice
pub mod Txn
pub mod Write
pub mod inner
pub mod worked
