pub mod Search
pub mod Ticks
pub mod Steps
pub mod Fresh
pub mod Asked
pub mod Quiet
