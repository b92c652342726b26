pub mod Pushes
pub mod ReadBack
pub mod Sinks
pub mod Steps
pub mod WriteLaws
