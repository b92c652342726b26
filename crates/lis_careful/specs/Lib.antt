-- What is heard carefully, by a receiver and on a link; and the statements of the laws.
pub mod Careful
pub mod World
pub mod OneByte
pub mod Laws
pub mod Follows
pub mod Cost
pub mod Carried
pub mod inside
