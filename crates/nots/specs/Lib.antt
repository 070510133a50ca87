pub mod Nots
pub mod Push
pub mod Turn
