pub mod Pieces
pub mod Encoding
pub mod WriteFaults
pub mod Writing
pub mod inside
