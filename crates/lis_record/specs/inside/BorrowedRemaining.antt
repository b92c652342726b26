-- What is left to write of a field that is in a text.
use Rattle.std.specs.Prelude.{ℕ, List, [], map}
use Rattle.lis_record_values.specs.Delimiters.{DelimiterBytes}
use Rattle.lis_record_values.specs.Shape.{Symbols}
use Rattle.lis_record_read.specs.FrontReading.{components_of, parts_following, symbols_of}
use Rattle.lis_record_write.specs.inside.Remaining.{remaining}

-- the rest of a component, and the texts of the components and of the repeats that follow, each after its delimiter
abbrev pub remaining_text : DelimiterBytes → Symbols → List ℕ → List ℕ → List ℕ
remaining_text d symbols components repeats =
    remaining d symbols (map (symbols_of d) (parts_following d.component components))
    (map (components_of d) (parts_following d.repeat repeats)) [] []
