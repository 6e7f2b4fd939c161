-- What the code alone speaks of: its decisions and plans, what its tables keep, and what it carries
-- out.
pub mod Does
pub mod Commands
pub mod Reacts
pub mod Device
pub mod Ready
pub mod Decisions
pub mod Made
pub mod Ticks
