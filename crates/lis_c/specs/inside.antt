-- What proofs and private functions speak of. No public contract cites it.
pub mod Careful
pub mod Feeding
pub mod Reports
pub mod Signals
pub mod Stations
pub mod Steps
pub mod Within
