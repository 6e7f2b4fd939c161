pub mod Text
pub mod Steps
