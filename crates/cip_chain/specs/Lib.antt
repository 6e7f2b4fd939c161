pub mod Seeking
pub mod Found
pub mod Answers
pub mod Index
