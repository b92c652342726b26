pub mod CheckLaws
mod CheckRows
pub mod Digits
pub mod MessageLaws
pub mod MessageRunLaws
pub mod RecordSteps
pub mod ResultLaws
