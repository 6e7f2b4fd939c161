pub mod Fields
pub mod Heads
pub mod Lines
pub mod Orders
pub mod Outputs
