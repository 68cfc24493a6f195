pub mod Descent
pub mod Listed
pub mod OwnLeft
pub mod TreeView
