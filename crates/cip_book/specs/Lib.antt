pub mod Books
pub mod Labels
pub mod Opens
