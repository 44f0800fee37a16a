pub mod Lines
pub mod Pieces
pub mod Unlisted
pub mod Left
