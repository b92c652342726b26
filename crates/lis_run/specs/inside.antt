-- What proofs and private functions speak of. No public contract cites it.
pub mod Playing
pub mod Replay
pub mod Show
pub mod Upgrade
