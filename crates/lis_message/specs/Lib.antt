pub mod Feeding
pub mod Kept
pub mod Records
pub mod Stream
pub mod Taking
pub mod Writing
pub mod inside
