pub mod Times
pub mod Bounds
