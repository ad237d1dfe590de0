pub mod Stored
pub mod Places
pub mod Records
pub mod Report
pub mod Check
pub mod Determined
