-- What proofs and private functions speak of. No public contract cites it.
pub mod Front
pub mod Joining
pub mod Last
pub mod ResultsLeft
