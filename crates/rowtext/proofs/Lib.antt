pub mod Digits
pub mod Ended
pub mod Fetching
pub mod Numbered
pub mod Parted
pub mod Printed
pub mod Yielded
