pub mod Chained
pub mod Show
pub mod TablesText
pub mod Back
pub mod Fits
