pub mod Ports
pub mod WayBack
pub mod Walks
pub mod Seating
pub mod Lists
pub mod Before
