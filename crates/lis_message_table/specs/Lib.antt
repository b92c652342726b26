pub mod Parents
pub mod Put
pub mod Results
pub mod Table
pub mod inside
