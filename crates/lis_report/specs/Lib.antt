-- How a command of the program ends, and how a rejected record is reported.
pub mod Answers
pub mod Codes
pub mod inside
