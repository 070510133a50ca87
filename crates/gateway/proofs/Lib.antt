pub mod Judges
pub mod Worked
pub mod Unique
