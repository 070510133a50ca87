pub mod Earned
pub mod Statuses
pub mod Stops
pub mod Enough
pub mod Unique
