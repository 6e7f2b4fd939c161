pub mod Indexed
pub mod PutOut
pub mod NewModules
