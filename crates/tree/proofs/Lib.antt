pub mod Steps
pub mod Prefix
pub mod Counts
pub mod Exact
pub mod Regroup
pub mod DoubleNot
pub mod Examples
pub mod Unique
