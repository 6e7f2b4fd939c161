pub mod Closes
pub mod Successes
pub mod ReadAgain
