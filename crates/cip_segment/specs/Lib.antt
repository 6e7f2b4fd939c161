pub mod Spelling
pub mod Scan
pub mod Seen
pub mod Gives
pub mod Brief
pub mod Hop
pub mod Short
pub mod Reading
