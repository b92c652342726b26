-- Why what happens to careful stations on a line happens to two as the profile has them on a line that loses more.
pub mod Steps
pub mod Instead
pub mod Rooms
pub mod Histories
pub mod LateHistories
