pub mod Exact
pub mod Bounds
pub mod Determined
