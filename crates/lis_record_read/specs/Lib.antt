pub mod FrontReading
pub mod inside
