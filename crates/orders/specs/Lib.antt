pub mod Pairs
pub mod Batches
