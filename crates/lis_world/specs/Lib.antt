-- The link between the two ends, what can happen on it, and what is safe.
pub mod Unit
pub mod Session
pub mod World
pub mod Steps
pub mod Safe
pub mod Late
pub mod LateDiscipline
pub mod Progress
pub mod Recovery
pub mod LateRecovery
pub mod inside
