pub mod Frames
pub mod Loops
pub mod Walks
pub mod Parts
pub mod Verdicts
pub mod Examples
pub mod Unique
