pub mod Template
pub mod Compile
