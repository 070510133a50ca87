pub mod Frame
pub mod Meaning
pub mod Constants
pub mod Evaluate
pub mod Walk
