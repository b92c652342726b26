-- What the devices for tests give and take.
pub mod Testing
