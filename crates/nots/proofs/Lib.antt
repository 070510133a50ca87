pub mod Trees
pub mod Places
pub mod Turns
pub mod Writes
pub mod Rooms
pub mod Sheets
pub mod Unique
