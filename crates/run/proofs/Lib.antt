pub mod Cells
pub mod Turns
pub mod Jobs
pub mod Enough
pub mod Putting
pub mod Rests
