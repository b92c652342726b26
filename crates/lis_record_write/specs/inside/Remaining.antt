-- What is left to write, while a record goes out in chunks.
use Rattle.std.specs.Prelude.{ℕ, List, ◌∷◌, ◌++◌}
use Rattle.std.specs.List.{flat_map}
use Rattle.lis_record_values.specs.Delimiters.{DelimiterBytes}
use Rattle.lis_record_values.specs.Shape.{Components, Fields, Repeats, Symbols}
use Rattle.lis_record_write.specs.Encoding.{encoded_component, encoded_repeat, more_fields}

-- components after the first one of a repeat
abbrev pub more_components : DelimiterBytes → Components → List ℕ
more_components d components = flat_map (λ symbols. d.component ∷ encoded_component d symbols) components

-- repeats after the first one of a field
abbrev pub more_repeats : DelimiterBytes → Repeats → List ℕ
more_repeats d repeats = flat_map (λ components. d.repeat ∷ encoded_repeat d components) repeats

-- the rest of a component, of its repeat, of its field, of its record, and what ends it
unfoldable pub remaining : DelimiterBytes → Symbols → Components → Repeats → Fields → List ℕ → List ℕ
remaining d symbols components repeats fields end =
    encoded_component d symbols ++ (more_components d components
    ++ (more_repeats d repeats ++ (more_fields d fields ++ end)))
