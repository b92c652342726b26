-- Why the rule makes each session safe, and why it is needed.
pub mod Hushed
pub mod Deaf
pub mod LateItems
pub mod LateEvents
pub mod Newness
pub mod LateLaw
pub mod LateRows
