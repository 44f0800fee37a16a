pub mod Appended
pub mod Fronts
pub mod Texts
pub mod Writes
