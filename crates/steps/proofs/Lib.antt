pub mod Asked
pub mod Statements
pub mod Determined
