pub mod Close
pub mod CloseAt
pub mod Success
pub mod SuccessAt
pub mod Failed
pub mod Reading
pub mod GoesOn
