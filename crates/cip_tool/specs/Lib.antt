pub mod Numbers
pub mod Words
pub mod Routes
pub mod Spelling
pub mod Pieces
pub mod Parameters
