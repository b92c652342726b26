-- The lemmas of the crate.
pub mod CutLaws
pub mod Sinks
