pub mod DelimiterFaults
pub mod FirstFaults
pub mod Items
pub mod KindCases
pub mod OnlyTexts
