pub mod Check
pub mod Length
pub mod Refusal
pub mod Measure
