pub mod Digits
pub mod Escaping
pub mod Numbers
