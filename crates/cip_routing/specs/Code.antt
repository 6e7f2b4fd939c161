-- What the code alone speaks of: which row a decision is, what an end writes of a datum and the ids
-- under which data come, and what a module's tables keep of one another.
pub mod Decisions
pub mod Plans
pub mod Fit
