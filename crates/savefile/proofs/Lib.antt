pub mod Walks
pub mod Parts
pub mod Headers
pub mod Examples
pub mod Unique
