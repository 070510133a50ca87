pub mod Same
pub mod Twelve
