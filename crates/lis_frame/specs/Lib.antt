-- What a frame, a stream of link bytes and the frames of a text are, in the terms of LIS01-A2.
pub mod Limit
pub mod Frame
pub mod FrameBody
pub mod Stream
pub mod Scanner
pub mod Pieces
pub mod Laws
pub mod inside
