-- What a run gives, and what its parts write.
pub mod Output
pub mod Outcome
pub mod Runs
pub mod Parts
pub mod Steps
pub mod inside
