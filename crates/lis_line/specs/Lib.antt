-- What is played on a line between two stations.
pub mod Events
pub mod Progress
pub mod inside
