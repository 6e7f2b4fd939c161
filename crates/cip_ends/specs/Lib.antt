pub mod Ends
pub mod Names
pub mod Silent
