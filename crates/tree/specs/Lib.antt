pub mod Tree
pub mod Tokens
pub mod Shape
pub mod Regroup
