-- The two ends of the link, each as a table of steps over plain states, and how frames join to texts.
pub mod Joining
pub mod Sender
pub mod Duties
pub mod Receiver
pub mod Laws
pub mod Kept
pub mod Front
pub mod Queue
pub mod Representation
pub mod inside
