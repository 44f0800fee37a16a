pub mod Advance
pub mod Moves
pub mod Names
pub mod Records
