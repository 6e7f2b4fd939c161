pub mod Texts
pub mod Escapes
