pub mod ClosingLook
mod Exclusion
pub mod LoopEnds
pub mod NamedFiles
mod OneCause
mod PolledTasks
mod PollsBehind
mod RoundTurns
mod StuckOutput
