pub mod Answered
pub mod Answers
pub mod Asks
pub mod Attributes
pub mod Identities
pub mod Means
