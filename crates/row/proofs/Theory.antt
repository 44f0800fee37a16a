-- The theory of one row, over any kind of cell.
pub mod Packed
pub mod Certificates
pub mod Chains
pub mod Walks
pub mod Settled
pub mod Cheapest
pub mod Fewer
