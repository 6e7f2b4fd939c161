pub mod ChainTold
pub mod Words
pub mod Outputs
pub mod Heads
pub mod Entries
pub mod Notes
