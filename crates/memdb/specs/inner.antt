pub mod Checking
pub mod CommandLine
pub mod CommandOf
pub mod LastState
pub mod MadeInputs
pub mod MadeLeft
pub mod MadeText
pub mod Sessions
