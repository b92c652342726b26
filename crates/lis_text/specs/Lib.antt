-- What bytes a text may hold, and the texts that a session carries, in the terms of LIS01-A2.
pub mod Control
pub mod Text
pub mod LinkText
