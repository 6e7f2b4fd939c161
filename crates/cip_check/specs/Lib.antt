pub mod Bytes
pub mod Taken
