pub mod StillCan
pub mod StillHeld
pub mod ThreeBack
