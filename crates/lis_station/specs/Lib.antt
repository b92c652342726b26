-- A side of a line that works both ways, as a table of steps over the states of its two ends; and two of them on one
-- line.
pub mod Station
pub mod Representation
pub mod Line
pub mod LeftOut
pub mod Laws
pub mod inside
