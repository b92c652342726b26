-- What follows of the definitions of the two ends.
pub mod HearingLaws
pub mod JoiningLaws
pub mod Receiving
pub mod QueueLaws
pub mod Counting
pub mod StartLaws
pub mod SenderLaws
