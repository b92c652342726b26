-- What private fields represent, and what holds within loops. A public contract that speaks of private state cites it.
pub mod Loads
pub mod Playing
