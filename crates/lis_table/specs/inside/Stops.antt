-- What is known of the places of delimiters and escape bytes in a text.
use Rattle.std.specs.Prelude.{◌≡◌, ◌≤◌, ◌<◌, ℕ, List, length, map, take}
use Rattle.std.specs.Simd.Lanes.{mask_l}
use Rattle.lis_record_values.specs.Delimiters.{DelimiterBytes}
use Rattle.lis_record_read.specs.inside.FrontReading.{stops}

-- the places among so many first bytes of a text that hold a delimiter or the escape byte, as bits
pub record AreAhead (d : DelimiterBytes) (text : List ℕ) (bits count : ℕ) : Type 0 where
  pub some : 0 < count
  pub few : count ≤ 64
  pub within : count ≤ length text
  pub are : bits ≡ mask_l (map (stops d d.escape) (take count text))
