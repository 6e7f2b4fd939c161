pub mod Cuts
pub mod Rounds
