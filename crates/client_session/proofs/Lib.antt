mod AwaitedLines
mod CellsOfSets
mod CellsTold
pub mod ClientLists
mod StateTurns
mod EachCellOnce
mod FollowsOn
mod FromTheStart
mod HeldOn
mod IndexPlaces
mod SnapshotSteps
mod LooksTold
mod MadeSoFar
pub mod ManyClients
pub mod OneMoreLine
pub mod OpenTurns
pub mod PlacesByCaller
mod QuietBefore
mod QuietMembers
mod ReplyLines
mod RequestTurns
mod SessionSteps
mod SetsJoined
pub mod Threads
mod ToldCounts
mod UntoldCommits
mod WaitsTold
mod WatchTurns
mod WatchesNamed
mod WatchesTold
