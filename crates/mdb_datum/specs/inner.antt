pub mod Falls
pub mod Gains
pub mod Plain
pub mod RowView
pub mod Tokens
