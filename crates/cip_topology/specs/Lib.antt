-- Topology files: their rules, in the order in which they are looked at.
pub mod Words
pub mod Faults
pub mod Keys
pub mod Calls
pub mod LinkTables
pub mod PortTables
pub mod ModuleTables
pub mod Documents
pub mod Files
