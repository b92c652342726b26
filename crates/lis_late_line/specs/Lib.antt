-- Two stations on a line that answers late, and when they ask for it.
pub mod Late
pub mod Discipline
