pub mod ListLemmas
pub mod SearchLemmas
pub mod OverLemmas
pub mod SumLemmas
pub mod LastBits
pub mod MarkLemmas
pub mod PassedLemmas
pub mod SummedLemmas
