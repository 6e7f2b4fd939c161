pub mod Back
pub mod Splits
pub mod LinesLaws
