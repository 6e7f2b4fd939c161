pub mod Digits
pub mod Numerals
pub mod Routed
pub mod Spelled
pub mod Texts
pub mod Joined
