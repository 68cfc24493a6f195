pub mod ArgKeys
pub mod RowKeys
pub mod Samples
pub mod UuidKeys
