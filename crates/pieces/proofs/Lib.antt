pub mod Pieces
pub mod Leading
pub mod Unique
pub mod Laws
