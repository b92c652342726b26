-- A message that isn't closed yet.
use Rattle.std.specs.Prelude.{List, Option, Some, None}
use Rattle.lis_record_values.specs.Delimiters.{DelimiterBytes}
use Rattle.lis_record_values.specs.Shape.{RecordContent}
use Rattle.lis_tree.specs.Level.{Level, outside, kinds_of, level_after}

-- its header's delimiters, and its records so far
pub record Begun : Type 0 where
  pub delimiters : DelimiterBytes
  pub records : List RecordContent

-- where the next record would be
abbrev pub level_of : Option Begun → Level
level_of None = outside
level_of (Some begun) = level_after outside (kinds_of begun.records)
