pub mod Program
pub mod Kinds
pub mod Ends
