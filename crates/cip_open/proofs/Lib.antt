pub mod Parts
pub mod Services
pub mod Opens
pub mod Successes
pub mod ReadAgain
