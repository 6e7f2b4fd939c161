pub mod BytesLaws
pub mod WordsLaws
pub mod StepsLaws
