-- A station whose receiver hears carefully.
pub mod Station
pub mod Laws
pub mod inside
