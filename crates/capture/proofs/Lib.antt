pub mod Counts
pub mod Captures
pub mod Means
pub mod Parts
pub mod Unique
