pub mod Order
pub mod Spreads
pub mod Determined
