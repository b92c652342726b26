-- What proofs and private functions speak of. No public contract cites it.
pub mod BorrowedRemaining
pub mod Marks
pub mod Opening
pub mod Reencoding
