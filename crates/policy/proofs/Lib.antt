pub mod Sizes
pub mod Shape
pub mod Laws
pub mod House
pub mod Determined
