-- What proofs and private functions speak of. No public contract cites it.
pub mod Digits
pub mod Kept
pub mod Reader
pub mod Encoding
