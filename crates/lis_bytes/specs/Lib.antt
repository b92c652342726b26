-- Counts that stay at their greatest, and what is known of the places of a byte.
pub mod Capped
pub mod Marks
pub mod inside
