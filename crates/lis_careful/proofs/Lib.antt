-- Why what a careful receiver does is what the profile's does on a link that loses more.
pub mod Receiving
pub mod Heard
pub mod Frames
pub mod Fronts
pub mod Histories
pub mod OneByte
pub mod OneByteRows
pub mod Follows
pub mod Cost
pub mod Carried
