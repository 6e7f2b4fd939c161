pub mod Bands
pub mod Passed
pub mod Sides
