pub mod CameCloses
pub mod CameOpens
pub mod CameSends
pub mod CameSuccesses
pub mod Edited
pub mod Paths
pub mod Shortened
