pub mod Known
pub mod Transcript
pub mod Playing
pub mod Outcome
pub mod Live
