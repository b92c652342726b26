-- What proofs and private functions speak of. No public contract cites it.
pub mod Output
pub mod Reads
pub mod Steps
