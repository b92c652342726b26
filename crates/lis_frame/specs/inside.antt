-- What proofs and private functions speak of. No public contract cites it.
pub mod Kept
pub mod Scanner
pub mod FrameBody
