-- Lemmas on captures.
pub mod DigitsLemmas
pub mod LineLemmas
pub mod CaptureLemmas
pub mod SizeLemmas
pub mod ReaderLemmas
pub mod EncodingLemmas
pub mod VersionLemmas
mod DefinitionRows
mod BelowLemmas
mod DecodeLemmas
mod FirstByteLemmas
mod LaneLemmas
mod LowerLemmas
mod KeptLemmas
