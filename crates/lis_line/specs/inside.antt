-- What proofs speak of. No public contract cites it.
pub mod Kept
