pub mod IndexView
pub mod IndexerAnswer
pub mod ListAnswer
pub mod QueryView
pub mod Regular
pub mod TableView
