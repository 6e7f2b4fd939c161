pub mod Reactions
pub mod Code
