pub mod AsIs
mod DefinitionRows
pub mod FaultLaws
pub mod FaultlessTexts
pub mod Grown
pub mod LeftMarks
pub mod BorrowedTexts
pub mod Opening
pub mod PlainFields
pub mod RecordTexts
pub mod Reencoded
pub mod Runs
pub mod Shapes
pub mod TakenFields
