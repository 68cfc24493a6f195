pub mod ContentsOf
pub mod Reading
pub mod ReadingResult
