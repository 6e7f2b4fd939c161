pub mod Unconnecteds
pub mod ReadAgain
