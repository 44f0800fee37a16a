pub mod Costs
pub mod Measures
pub mod Names
pub mod Steps
