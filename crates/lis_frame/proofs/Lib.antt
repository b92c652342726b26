mod DefinitionRows
pub mod FrameLaws
pub mod FrontLemmas
pub mod HeardLaws
pub mod KeptLemmas
pub mod MarkLemmas
pub mod PieceLaws
pub mod ScannerLemmas
pub mod StreamLaws
pub mod FrameBodyLemmas
mod PutLaws
