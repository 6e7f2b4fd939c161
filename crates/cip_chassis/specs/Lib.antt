-- Topologies: what they keep, and where frames and paths go in them.
pub mod Plan
pub mod Nodes
pub mod Walk
pub mod Seats
pub mod Kept
pub mod Ways
