-- The bytes that the table names are read as the record's components, one by one and in order.
use Rattle.std.proofs.Common.{◌≡◌, ℕ, ◌+◌, List, [], ◌∷◌, ◌++◌, length, map, take, drop, refl, sym, ap, ◌∙◌}
use Rattle.std.proofs.Common.{append_assoc, append-nil, arith}
use Rattle.std.specs.List.{join_with_byte}
use Rattle.std.proofs.Math.Seq.{drop-append_seam, take-append_seam}
use Rattle.std.proofs.lemmas.List.{drop-drop, map-append}
use Rattle.std.proofs.lemmas.List.Splits.{join_with_byte-slice_split}
use Rattle.lis_record_values.specs.declared.kinds.Kind.{Kind}
use Rattle.lis_record_values.specs.Delimiters.{DelimiterBytes}
use Rattle.lis_record_values.specs.Shape.{first_number}
use Rattle.lis_record_read.specs.FrontReading.{components_of, parts_following, parts_of, repeats_of, symbols_of}
use Rattle.lis_record.specs.Borrowed.{front_length, record_in}
use Rattle.lis_table.specs.Entries.{Entry, component_entries, entries_of, entry_at, field_entries, repeat_entries}
use Rattle.lis_table.specs.Table.{component_places, field_places, place_of, repeat_places, table_of}

module _ (d : DelimiterBytes) (text : List ℕ) where
  abbrev Follows : ℕ → List ℕ → Type 0
  Follows at bytes = drop at text ≡ bytes

  -- what comes after a part and the byte after it
  following : (mark at : ℕ) (part more : List ℕ) → Follows at (part ++ mark ∷ more) → Follows (at + length part + 1)
      more
  following mark at part more is =
      let sum : at + length part + 1 ≡ at + (length part + 1) = omega arith in
      let one : drop 1 (mark ∷ more) ≡ more = refl in
      ap (λ (n : ℕ). drop n text) sum
      ∙ sym (drop-drop (length part + 1) at text)
      ∙ ap (drop (length part + 1)) is
      ∙ sym (drop-drop 1 (length part) (part ++ mark ∷ more))
      ∙ ap (drop 1) (drop-append_seam part (mark ∷ more))

  -- a component's entry
  component_read : (f r c at : ℕ) (part more : List ℕ) → Follows at (part ++ more)
      → entry_at d text (place_of d f r c at part)
      ≡ record { field = f; repeat = r; component = c; symbols = symbols_of d part }
  component_read f r c at part more is =
      ap (λ (l : List ℕ). record { field = f; repeat = r; component = c; symbols = symbols_of d l })
      (ap (take (length part)) is ∙ take-append_seam part more)

  components_read : (parts : List (List ℕ)) (f r c at : ℕ) (more : List ℕ)
      → Follows at (join_with_byte d.component parts ++ more)
      → map (entry_at d text) (component_places d f r c at parts)
      ≡ component_entries f r c (map (symbols_of d) parts)
  components_read [] f r c at more is = refl
  components_read (part ∷ []) f r c at more is =
      ap (λ (e : Entry). e ∷ []) (component_read f r c at part more is)
  components_read (part ∷ next ∷ parts) f r c at more is =
      let others = join_with_byte d.component (next ∷ parts) in
      let here : Follows at (part ++ (d.component ∷ (others ++ more))) =
      is ∙ append_assoc part (d.component ∷ others) more in
      let first = component_read f r c at part (d.component ∷ (others ++ more)) here in
      ap (λ (e : Entry). e ∷ map (entry_at d text) (component_places d f r (c + 1) (at + length part + 1)
      (next ∷ parts)))
      first
      ∙ ap (λ (l : List Entry). record { field = f; repeat = r; component = c; symbols = symbols_of d part } ∷ l)
      (components_read (next ∷ parts) f r (c + 1) (at + length part + 1) more
      (following d.component at part (others ++ more) here))

  -- the components of a repeat's text
  repeat_read : (f r at : ℕ) (part more : List ℕ) → Follows at (part ++ more)
      → map (entry_at d text) (component_places d f r 0 at (parts_of d.component part))
      ≡ component_entries f r 0 (components_of d part)
  repeat_read f r at part more is =
      components_read (parts_of d.component part) f r 0 at more
      (is ∙ ap (λ (l : List ℕ). l ++ more) (sym (join_with_byte-slice_split d.component part)))

  repeats_read : (parts : List (List ℕ)) (f r at : ℕ) (more : List ℕ)
      → Follows at (join_with_byte d.repeat parts ++ more)
      → map (entry_at d text) (repeat_places d f r at parts) ≡ repeat_entries f r (map (components_of d) parts)
  repeats_read [] f r at more is = refl
  repeats_read (part ∷ []) f r at more is =
      map-append (entry_at d text) (component_places d f r 0 at (parts_of d.component part)) []
      ∙ ap (λ (l : List Entry). l ++ []) (repeat_read f r at part more is)
  repeats_read (part ∷ next ∷ parts) f r at more is =
      let others = join_with_byte d.repeat (next ∷ parts) in
      let here : Follows at (part ++ (d.repeat ∷ (others ++ more))) =
      is ∙ append_assoc part (d.repeat ∷ others) more in
      let later = repeat_places d f (r + 1) (at + length part + 1) (next ∷ parts) in
      map-append (entry_at d text) (component_places d f r 0 at (parts_of d.component part)) later
      ∙ ap (λ (l : List Entry). l ++ map (entry_at d text) later)
      (repeat_read f r at part (d.repeat ∷ (others ++ more)) here)
      ∙ ap (λ (l : List Entry). component_entries f r 0 (components_of d part) ++ l)
      (repeats_read (next ∷ parts) f (r + 1) (at + length part + 1) more
      (following d.repeat at part (others ++ more) here))

  -- the components of a field's text
  field_read : (f at : ℕ) (part more : List ℕ) → Follows at (part ++ more)
      → map (entry_at d text) (repeat_places d f 0 at (parts_of d.repeat part))
      ≡ repeat_entries f 0 (repeats_of d part)
  field_read f at part more is =
      repeats_read (parts_of d.repeat part) f 0 at more
      (is ∙ ap (λ (l : List ℕ). l ++ more) (sym (join_with_byte-slice_split d.repeat part)))

  fields_read : (parts : List (List ℕ)) (f at : ℕ) (more : List ℕ)
      → Follows at (join_with_byte d.field parts ++ more)
      → map (entry_at d text) (field_places d f at parts) ≡ field_entries f (map (repeats_of d) parts)
  fields_read [] f at more is = refl
  fields_read (part ∷ []) f at more is =
      map-append (entry_at d text) (repeat_places d f 0 at (parts_of d.repeat part)) []
      ∙ ap (λ (l : List Entry). l ++ []) (field_read f at part more is)
  fields_read (part ∷ next ∷ parts) f at more is =
      let others = join_with_byte d.field (next ∷ parts) in
      let here : Follows at (part ++ (d.field ∷ (others ++ more))) =
      is ∙ append_assoc part (d.field ∷ others) more in
      let later = field_places d (f + 1) (at + length part + 1) (next ∷ parts) in
      map-append (entry_at d text) (repeat_places d f 0 at (parts_of d.repeat part)) later
      ∙ ap (λ (l : List Entry). l ++ map (entry_at d text) later)
      (field_read f at part (d.field ∷ (others ++ more)) here)
      ∙ ap (λ (l : List Entry). repeat_entries f 0 (repeats_of d part) ++ l)
      (fields_read (next ∷ parts) (f + 1) (at + length part + 1) more
      (following d.field at part (others ++ more) here))

-- the table of a record's text
pub table_read : (d : DelimiterBytes) (kind : Kind) (text : List ℕ)
    → map (entry_at d text) (table_of d kind text) ≡ entries_of (record_in d kind text).content
table_read d kind text = go (drop (front_length kind) text) refl
  where
    go : (rest : List ℕ) → drop (front_length kind) text ≡ rest
        → map (entry_at d text)
        (field_places d (first_number kind) (front_length kind + 1) (parts_following d.field rest))
        ≡ field_entries (first_number kind) (map (repeats_of d) (parts_following d.field rest))
    go [] is = refl
    go (mark ∷ rest) is =
        let here : drop (front_length kind + 1) text ≡ join_with_byte d.field (parts_of d.field rest) ++ [] =
        sym (drop-drop 1 (front_length kind) text) ∙ ap (drop 1) is
        ∙ sym (join_with_byte-slice_split d.field rest)
        ∙ sym (append-nil (join_with_byte d.field (parts_of d.field rest))) in
        fields_read d text (parts_of d.field rest) (first_number kind) (front_length kind + 1) [] here
