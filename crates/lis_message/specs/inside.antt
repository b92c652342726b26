-- What proofs and private functions speak of. No public contract cites it.
pub mod Feeding
pub mod Kept
pub mod Records
pub mod Taking
