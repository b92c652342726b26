mod DefinitionRows
pub mod Splits
pub mod EveryStream
pub mod Lines
pub mod NextRecord
pub mod OneRefusal
pub mod ReadBack
pub mod Reading
pub mod RecordLaws
pub mod Refusals
pub mod Stopping
pub mod TakingLaws
pub mod Whole
pub mod WholeRecords
pub mod WritingLaws
