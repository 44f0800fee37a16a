pub mod Halving
pub mod Inserted
pub mod Sides
