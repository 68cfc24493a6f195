pub mod Rows
pub mod ToldTexts
pub mod WorkedHistory
pub mod WorkedReplies
pub mod WorkedShape
