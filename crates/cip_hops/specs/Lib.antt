pub mod Changes
pub mod Hops
pub mod Kept
pub mod Onwards
pub mod Sides
pub mod TriadPairs
pub mod Quiet
