-- The bytes that are left to write, step by step.
use Rattle.lis_record_values.specs.declared.symbols.Sym.TheVariants.{Char, Raw, On, Off}
use Rattle.std.proofs.lemmas.List.{nil_from_length}
use Rattle.std.proofs.Common.{◌≡◌, ℕ, ◌<◌, List, [], ◌∷◌, ◌++◌, length, map, refl, sym, ap, ◌∙◌, append-nil}
use Rattle.std.proofs.Common.{append_assoc, arith, Option, Some, None}
use Rattle.std.specs.List.{flat_map, join_with_byte}
use Rattle.lis_record_values.specs.declared.symbols.Sym.{Sym}
use Rattle.lis_record_values.specs.Delimiters.{DelimiterBytes}
use Rattle.lis_record_write.specs.Encoding.{more_fields, encoded_component, encoded_field, encoded_repeat}
use Rattle.lis_record_write.specs.Encoding.{encoded_symbol}
use Rattle.lis_record_write.specs.Encoding.{char_encoding, delimiter_letter}
use Rattle.lis_record_write.specs.inside.Remaining.{more_components, more_repeats, remaining}
use Rattle.lis_record_values.specs.Shape.{Components, Fields, Repeats, Symbols}

-- a join is its first part, and each other one after a delimiter
join-first : {A : Type 0} (byte : ℕ) (encode : A → List ℕ) (item : A) (items : List A)
    → join_with_byte byte (map encode (item ∷ items)) ≡ encode item ++ flat_map (λ other. byte ∷ encode other) items
join-first byte encode item [] = sym (append-nil (encode item))
join-first byte encode item (next ∷ items) = ap (λ (l : List ℕ). encode item ++ byte ∷ l)
    (join-first byte encode next items)

module _ (d : DelimiterBytes) where
  pub encoded_repeat-first : (repeat : Components) (symbols : Symbols) (components : Components)
      → repeat ≡ symbols ∷ components
      → encoded_repeat d repeat ≡ encoded_component d symbols ++ more_components d components
  encoded_repeat-first repeat symbols components e =
      rw e (join-first d.component (encoded_component d) symbols components)

  pub encoded_field-first : (field : Repeats) (repeat : Components) (repeats : Repeats) (symbols : Symbols)
      (components : Components) → field ≡ repeat ∷ repeats
      → encoded_repeat d repeat ≡ encoded_component d symbols ++ more_components d components
      → encoded_field d field ≡ encoded_component d symbols ++ (more_components d components ++ more_repeats d repeats)
  encoded_field-first field repeat repeats symbols components e h =
      rw e (join-first d.repeat (encoded_repeat d) repeat repeats)
      ∙ ap (λ (l : List ℕ). l ++ more_repeats d repeats) h
      ∙ append_assoc (encoded_component d symbols) (more_components d components) (more_repeats d repeats)

  -- what the chunk has and what is left are the same before and after a step
  pub symbols_step : (old new : List ℕ) (symbols others : Symbols) (c : Components) (r : Repeats) (f : Fields)
      (e : List ℕ)
      → new ++ encoded_component d others ≡ old ++ encoded_component d symbols
      → new ++ remaining d others c r f e ≡ old ++ remaining d symbols c r f e
  unfolding remaining
  symbols_step old new symbols others c r f e h =
      let rest = more_components d c ++ (more_repeats d r ++ (more_fields d f ++ e)) in
      sym (append_assoc new (encoded_component d others) rest) ∙ ap (λ (l : List ℕ). l ++ rest) h
      ∙ append_assoc old (encoded_component d symbols) rest

  pub component_step : (old new : List ℕ) (symbols : Symbols) (c : Components) (r : Repeats) (f : Fields) (e : List ℕ)
      → new ≡ old ++ d.component ∷ [] → new ++ remaining d symbols c r f e ≡ old ++ remaining d [] (symbols ∷ c) r f e
  unfolding remaining
  component_step old new symbols c r f e h =
      let rest = more_repeats d r ++ (more_fields d f ++ e) in
      rw (h, append_assoc old (d.component ∷ []) (encoded_component d symbols ++ (more_components d c ++ rest)))
      (ap (λ (l : List ℕ). old ++ d.component ∷ l) (sym
      (append_assoc (encoded_component d symbols) (more_components d c) rest)))

  pub repeat_step : (old new : List ℕ) (repeat : Components) (symbols : Symbols) (c : Components) (r : Repeats)
      (f : Fields) (e : List ℕ)
      → encoded_repeat d repeat ≡ encoded_component d symbols ++ more_components d c
      → new ≡ old ++ d.repeat ∷ [] → new ++ remaining d symbols c r f e ≡ old ++ remaining d [] [] (repeat ∷ r) f e
  unfolding remaining
  repeat_step old new repeat symbols c r f e opened h =
      let tail = more_fields d f ++ e in
      let again : encoded_component d symbols ++ (more_components d c ++ (more_repeats d r ++ tail))
      ≡ (encoded_repeat d repeat ++ more_repeats d r) ++ tail =
      sym (append_assoc (encoded_component d symbols) (more_components d c) (more_repeats d r ++ tail))
      ∙ ap (λ (l : List ℕ). l ++ (more_repeats d r ++ tail)) (sym opened)
      ∙ sym (append_assoc (encoded_repeat d repeat) (more_repeats d r) tail) in
      rw (
        h,
        append_assoc old (d.repeat ∷ []) (encoded_component d symbols
            ++ (more_components d c ++ (more_repeats d r ++ tail))),
      )
      (ap (λ (l : List ℕ). old ++ d.repeat ∷ l) again)

  pub field_step : (old new : List ℕ) (field : Repeats) (symbols : Symbols) (c : Components) (r : Repeats)
      (f : Fields) (e : List ℕ)
      → encoded_field d field ≡ encoded_component d symbols ++ (more_components d c ++ more_repeats d r)
      → new ≡ old ++ d.field ∷ [] → new ++ remaining d symbols c r f e ≡ old ++ remaining d [] [] [] (field ∷ f) e
  unfolding remaining
  field_step old new field symbols c r f e opened h =
      let tail = more_fields d f ++ e in
      let again : encoded_component d symbols ++ (more_components d c ++ (more_repeats d r ++ tail))
      ≡ (encoded_field d field ++ more_fields d f) ++ e =
      sym (append_assoc (encoded_component d symbols) (more_components d c ++ more_repeats d r) tail
      ∙ ap (λ (l : List ℕ). encoded_component d symbols ++ l)
      (append_assoc (more_components d c) (more_repeats d r) tail))
      ∙ ap (λ (l : List ℕ). l ++ tail) (sym opened) ∙ sym (append_assoc (encoded_field d field) (more_fields d f) e) in
      rw (
        h,
        append_assoc old (d.field ∷ []) (encoded_component d symbols
            ++ (more_components d c ++ (more_repeats d r ++ tail))),
      )
      (ap (λ (l : List ℕ). old ++ d.field ∷ l) again)

  -- a field alone
  pub field_alone : (field : Repeats) (symbols : Symbols) (components : Components) (repeats : Repeats)
      → encoded_field d field ≡ encoded_component d symbols ++ (more_components d components ++ more_repeats d repeats)
      → remaining d symbols components repeats [] [] ≡ encoded_field d field
  unfolding remaining
  field_alone field symbols components repeats opened =
      ap (λ (l : List ℕ). encoded_component d symbols ++ (more_components d components ++ l))
      (append-nil (more_repeats d repeats)) ∙ sym opened

  pub end_step : (old new : List ℕ) (byte : ℕ) (e : List ℕ) → new ≡ old ++ byte ∷ []
      → new ++ remaining d [] [] [] [] e ≡ old ++ remaining d [] [] [] [] (byte ∷ e)
  unfolding remaining
  end_step old new byte e h = rw h (append_assoc old (byte ∷ []) e)

  -- the same of a cursor whose bytes are `whole`
  pub symbols_case : (old new whole : List ℕ) (symbols others : Symbols) (c : Components) (r : Repeats) (f : Fields)
      (e : List ℕ)
      → remaining d symbols c r f e ≡ whole → new ++ encoded_component d others ≡ old ++ encoded_component d symbols
      → new ++ remaining d others c r f e ≡ old ++ whole
  symbols_case old new whole symbols others c r f e view h =
      symbols_step old new symbols others c r f e h ∙ ap (λ (l : List ℕ). old ++ l) view

  pub component_case : (old new whole : List ℕ) (s symbols next : Symbols) (c others : Components) (r : Repeats)
      (f : Fields) (e : List ℕ)
      → remaining d s c r f e ≡ whole → length s ≡ 0 → c ≡ next ∷ others → symbols ≡ next
      → new ≡ old ++ d.component ∷ []
      → new ++ remaining d symbols others r f e ≡ old ++ whole
  component_case old new whole s symbols next c others r f e view no_symbols is opened h =
      let same : remaining d [] (next ∷ others) r f e ≡ whole = (rw (nil_from_length s no_symbols, is) refl) ∙ view in
      ap (λ (l : Symbols). new ++ remaining d l others r f e) opened ∙ component_step old new next others r f e h
      ∙ ap (λ (l : List ℕ). old ++ l) same

  pub repeat_case : (old new whole : List ℕ) (s symbols : Symbols) (c components next : Components)
      (r others : Repeats) (f : Fields) (e : List ℕ)
      → remaining d s c r f e ≡ whole → length s ≡ 0 → length c ≡ 0 → r ≡ next ∷ others
      → encoded_repeat d next ≡ encoded_component d symbols ++ more_components d components → new ≡ old ++ d.repeat ∷ []
      → new ++ remaining d symbols components others f e ≡ old ++ whole
  repeat_case old new whole s symbols c components next r others f e view no_symbols no_components is opened h =
      let same : remaining d [] [] (next ∷ others) f e ≡ whole =
      (rw (nil_from_length s no_symbols, nil_from_length c no_components, is) refl) ∙ view in
      repeat_step old new next symbols components others f e opened h ∙ ap (λ (l : List ℕ). old ++ l) same

  pub field_case : (old new whole : List ℕ) (s symbols : Symbols) (c components : Components)
      (r repeats next : Repeats) (f others : Fields) (e : List ℕ)
      → remaining d s c r f e ≡ whole → length s ≡ 0 → length c ≡ 0 → length r ≡ 0 → f ≡ next ∷ others
      → encoded_field d next ≡ encoded_component d symbols ++ (more_components d components ++ more_repeats d repeats)
      → new ≡ old ++ d.field ∷ []
      → new ++ remaining d symbols components repeats others e ≡ old ++ whole
  field_case old new whole s symbols c components r repeats next f others e view no_symbols no_components no_repeats
      is opened h =
      let same : remaining d [] [] [] (next ∷ others) e ≡ whole =
      (rw (nil_from_length s no_symbols, nil_from_length c no_components, nil_from_length r no_repeats, is) refl)
      ∙ view in
      field_step old new next symbols components repeats others e opened h ∙ ap (λ (l : List ℕ). old ++ l) same

  pub end_case : (old new whole : List ℕ) (s : Symbols) (c : Components) (r : Repeats) (f : Fields)
      (e others : List ℕ) (byte : ℕ)
      → remaining d s c r f e ≡ whole → length s ≡ 0 → length c ≡ 0 → length r ≡ 0 → length f ≡ 0 → e ≡ byte ∷ others
      → new ≡ old ++ byte ∷ []
      → new ++ remaining d s c r f others ≡ old ++ whole
  end_case old new whole s c r f e others byte view no_symbols no_components no_repeats no_fields is h =
      let none : (l : List ℕ) → remaining d s c r f l ≡ remaining d [] [] [] [] l =
      λ l. rw (
        nil_from_length s no_symbols,
        nil_from_length c no_components,
        nil_from_length r no_repeats,
        nil_from_length f no_fields,
      ) refl in
      ap (λ (l : List ℕ). new ++ l) (none others) ∙ end_step old new byte others h
      ∙ ap (λ (l : List ℕ). old ++ l) (sym (none (byte ∷ others)) ∙ ap (remaining d s c r f) (sym is) ∙ view)

  -- nothing is left
  pub nothing_left : (s : Symbols) (c : Components) (r : Repeats) (f : Fields) (e : List ℕ) → length s ≡ 0
      → length c ≡ 0 → length r ≡ 0 → length f ≡ 0 → length e ≡ 0
      → remaining d s c r f e ≡ []
  unfolding remaining
  nothing_left s c r f e hs hc hr hf he =
      rw (
        nil_from_length s hs,
        nil_from_length c hc,
        nil_from_length r hr,
        nil_from_length f hf,
        nil_from_length e
            he,
      ) refl

-- a symbol's encoding has a byte
pub encoded_symbol-some : (d : DelimiterBytes) (symbol : Sym) → 0 < length (encoded_symbol d symbol)
unfolding encoded_symbol
encoded_symbol-some d (Char byte) = some_char (delimiter_letter d byte)
  where
    some_char : (o : Option ℕ) → 0 < length (char_encoding d byte o)
    some_char (Some letter) = omega arith
    some_char None = omega arith
encoded_symbol-some d (Raw byte) = omega arith
encoded_symbol-some d On = omega arith
encoded_symbol-some d Off = omega arith
