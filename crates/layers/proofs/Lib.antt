pub mod Runs
pub mod Held
pub mod Unique
