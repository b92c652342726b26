-- What a capture says, line by line, and how its lines are written.
pub mod Digits
pub mod Line
pub mod Capture
pub mod Reader
pub mod Encoding
pub mod Laws
pub mod Kept
pub mod LastLine
pub mod inside
