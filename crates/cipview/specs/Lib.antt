pub mod Lengths
pub mod Statuses
