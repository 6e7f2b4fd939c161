pub mod Filled
pub mod Params
