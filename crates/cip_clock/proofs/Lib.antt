pub mod Tree
pub mod Stale
pub mod Bounded
