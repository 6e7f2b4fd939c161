pub mod Walked
pub mod Indexes
pub mod Opened
pub mod Nexts
pub mod Followed
pub mod OnRuns
pub mod Apart
