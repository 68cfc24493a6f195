pub mod FirstLine
pub mod GrammarParts
pub mod LaterWord
pub mod LineAnswer
pub mod LineDoc
pub mod ScriptAnswer
pub mod WordView
