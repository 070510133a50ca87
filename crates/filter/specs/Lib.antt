pub mod Ast
pub mod Bytes
pub mod First
pub mod Prefix
pub mod Record
pub mod Sheet
pub mod Wrong
pub mod Written
