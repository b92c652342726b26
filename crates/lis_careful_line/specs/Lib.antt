-- Two stations on one line, of which either may hear carefully; and the statements of the laws.
pub mod Line
pub mod Laws
