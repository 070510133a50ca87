pub mod Sizes
pub mod Halves
pub mod Unique
pub mod Laws
