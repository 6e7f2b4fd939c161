pub mod Unconnected
pub mod UnconnectedAt
pub mod Reading
pub mod GoesOn
