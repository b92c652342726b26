-- What proofs and private functions speak of. No public contract cites it.
pub mod Scan
pub mod Stops
pub mod Table
