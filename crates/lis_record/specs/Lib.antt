pub mod Faultless
pub mod Faults
pub mod Borrowing
pub mod Borrowed
pub mod inside
