pub mod Ended
pub mod Moving
pub mod Noted
pub mod PollsAgain
pub mod Registered
pub mod SameCaller
