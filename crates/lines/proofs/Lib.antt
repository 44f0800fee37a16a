pub mod Appended
pub mod Fronts
pub mod Lengths
