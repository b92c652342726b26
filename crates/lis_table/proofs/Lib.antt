pub mod EntryLaws
pub mod Scans
pub mod StopLaws
pub mod UnderWay
pub mod Written
