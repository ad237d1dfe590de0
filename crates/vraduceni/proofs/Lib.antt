pub mod Host
pub mod Demand3
pub mod Determined
