pub mod EncodeLemmas
pub mod OutputLaws
pub mod PutLaws
pub mod RunLaws
