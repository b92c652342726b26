-- All components of a record as a table.
pub mod Entries
pub mod Table
pub mod inside
