pub mod Links
pub mod Firsts
pub mod Wrongs
pub mod Sheets
pub mod Written
pub mod Masks
pub mod Unique
