pub mod Delimiters
pub mod Escapes
pub mod Kinds
pub mod Relation
pub mod Shape
pub mod Text
pub mod inside
