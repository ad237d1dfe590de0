pub mod Frames
pub mod Turns
pub mod Arms
pub mod Loaded
pub mod Determined
