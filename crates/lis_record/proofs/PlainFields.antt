-- Which texts are a field of one component of characters, none of them a delimiter: those that are its bytes.
use Rattle.lis_record_values.specs.declared.symbols.Sym.{Sym}
use Rattle.std.proofs.Common.{◌≡◌, ◌≢◌, ℕ, ◌<◌, ◌≤◌, List, [], ◌∷◌, ◌++◌, length, map, Some, refl, sym, ap, ◌∙◌}
use Rattle.std.proofs.Common.{arith, slice_get, get_or, eq-eqb, None, inl, inr, ◌*◌}
use Rattle.std.proofs.lemmas.Bool.Decides.{nat_tests}
use Rattle.std.proofs.lemmas.Bool.{cases_eq}
use Rattle.std.proofs.lemmas.List.Elements.{All-head, All-tail, All-cons, All-nil, All-same}
use Rattle.std.proofs.lemmas.List.Splits.{join_with_byte-slice_split}
use Rattle.std.specs.List.{join_with_byte}
use Rattle.hex.proofs.HexLemmas.{decode_of-ok}
use Rattle.hex.specs.Hex.{decode_of}
use Rattle.lis_record_values.specs.declared.symbols.Sym.TheVariants.{Char, Raw}
use Rattle.lis_record_values.specs.Delimiters.{DelimiterBytes, IsDelimiters}
use Rattle.lis_record_values.specs.declared.kinds.Kind.{Kind}
use Rattle.lis_record_values.proofs.FirstFaults.{test_false}
use Rattle.lis_record_values.specs.Shape.{RecordContent, Symbols, plain_component, plain_field}
use Rattle.lis_record_values.specs.Escapes.{IsComponent, nothing, plain, escape, lone, escape_of, letter_symbol}
use Rattle.lis_record_values.specs.Escapes.{raw_symbols}
use Rattle.lis_record.specs.Borrowed.{Borrowed, borrowed}
use Rattle.lis_record_values.specs.Relation.{Lacks, LacksDelimiters}
use Rattle.lis_record_read.specs.FrontReading.{IsPlainText, components_of, fields_of, parts_of, repeats_of, symbols_of}
use Rattle.lis_record_read.proofs.Components.{IsComponent-symbols_of, option_map-some, raw_symbols-ok}
use Rattle.lis_record.proofs.TakenFields.{digit-apart}
use Rattle.lis_record_read.proofs.FieldTexts.{plain_read}
use Rattle.lis_record_read.proofs.Joins.{parts_of-apart}

module _ (d : DelimiterBytes) where
  rest_lacks : (b : ℕ) (bs : List ℕ) → LacksDelimiters d (b ∷ bs) → LacksDelimiters d bs
  rest_lacks b bs h = record {
    field = All-tail (λ c. c ≢ d.field) b bs h.field;
    repeat = All-tail (λ c. c ≢ d.repeat) b bs h.repeat;
    component = All-tail (λ c. c ≢ d.component) b bs h.component;
    escape = All-tail (λ c. c ≢ d.escape) b bs h.escape;
  }

  -- a character that the escape of a letter means is a delimiter
  letter_meant : (letter byte : ℕ) → letter_symbol d letter ≡ Some (Char byte) → byte ≢ d.field → byte ≢ d.component
      → byte ≢ d.repeat → byte ≢ d.escape → ⊥
  letter_meant letter byte h field component repeat other = grind (arith, nat_tests)

  -- what begins with the meaning of an escape is no such characters
  meant_apart : (inside : List ℕ) (meant others : Symbols) (bytes : List ℕ) → escape_of d inside ≡ Some meant
      → LacksDelimiters d bytes → meant ++ others ≡ plain_component bytes → ⊥
  unfolding escape_of
  meant_apart [] meant others bytes means free is = cc
  meant_apart (letter ∷ []) meant others [] means free is =
      let one = option_map-some (λ (symbol : Sym). symbol ∷ []) (letter_symbol d letter) meant means in
      let whole : one.0 ∷ others ≡ [] = ap (λ (l : Symbols). l ++ others) one.2 ∙ is in
      cc
  meant_apart (letter ∷ []) meant others (b ∷ bs) means free is =
      let one = option_map-some (λ (symbol : Sym). symbol ∷ []) (letter_symbol d letter) meant means in
      let whole : one.0 ∷ others ≡ Char b ∷ plain_component bs = ap (λ (l : Symbols). l ++ others) one.2 ∙ is in
      let same : one.0 ≡ Char b = cc in
      letter_meant letter b (one.1 ∙ ap Some same) (All-head (λ c. c ≢ d.field) b bs free.field)
      (All-head (λ c. c ≢ d.component) b bs free.component) (All-head (λ c. c ≢ d.repeat) b bs free.repeat)
      (All-head (λ c. c ≢ d.escape) b bs free.escape)
  meant_apart (letter ∷ digit ∷ digits) meant others bytes means free is =
      elim (cases_eq letter 88) [
        | inl e ↦
            let read : raw_symbols (decode_of (digit ∷ digits)) ≡ Some meant = rw (eq-eqb letter 88 e) at means in
            let found = raw_symbols-ok (decode_of (digit ∷ digits)) meant read in
            let raw : map Raw found.0 ≡ meant = some_same (rw found.1 at read) in
            by found.0 (decode_of-ok (digit ∷ digits) found.0 found.1).2 bytes
            (ap (λ (l : Symbols). l ++ others) raw ∙ is)
        | inr other ↦ let none : None ≡ Some meant = rw (test_false letter 88 other) at means in cc none
      ]
    where
      some_same : {X : Type 0} {a b : X} → Some a ≡ Some b → a ≡ b
      some_same h = cc

      by : (digits_of : List ℕ) → length (digit ∷ digits) ≡ 2 * length digits_of → (bytes : List ℕ)
          → map Raw digits_of ++ others ≡ plain_component bytes → ⊥
      by [] long bytes is = absurd (omega (arith, long))
      by (x ∷ xs) long [] is = cc is
      by (x ∷ xs) long (b ∷ bs) is = cc is

  -- a text that reads as such characters has no escape byte
  escape_lacks : (text : List ℕ) (symbols : Symbols) → IsComponent d text symbols → (bytes : List ℕ)
      → symbols ≡ plain_component bytes → LacksDelimiters d bytes → Lacks d.escape text
  escape_lacks text symbols (nothing no_text no_symbols) bytes is free =
      All-same (λ c. c ≢ d.escape) text [] no_text (All-nil (λ c. c ≢ d.escape))
  escape_lacks text symbols (plain byte rest others whole read other r) [] is free =
      let no : Char byte ∷ others ≡ [] = sym read ∙ is in cc no
  escape_lacks text symbols (plain byte rest others whole read other r) (b ∷ bs) is free =
      let same : Char byte ∷ others ≡ Char b ∷ plain_component bs = sym read ∙ is in
      let following : others ≡ plain_component bs = cc same in
      All-same (λ c. c ≢ d.escape) text (byte ∷ rest) whole
      (All-cons (λ c. c ≢ d.escape) byte rest other (escape_lacks rest others r bs following (rest_lacks b bs free)))
  escape_lacks text symbols (escape inside rest meant others whole read means r) bytes is free =
      absurd (meant_apart inside meant others bytes means free (sym read ∙ is))
  escape_lacks text symbols (lone rest others whole read none r) [] is free =
      let no : Char d.escape ∷ others ≡ [] = sym read ∙ is in cc no
  escape_lacks text symbols (lone rest others whole read none r) (b ∷ bs) is free =
      let same : Char d.escape ∷ others ≡ Char b ∷ plain_component bs = sym read ∙ is in
      let byte : b ≡ d.escape = cc same in
      absurd (All-head (λ c. c ≢ d.escape) b bs free.escape byte)

  only_part : {X : Type 0} (f : List ℕ → X) (mark : ℕ) (text : List ℕ) (item : X)
      → map f (parts_of mark text) ≡ item ∷ [] → (Lacks mark text) × (f text ≡ item)
  only_part {X = X} f mark text item is = by (parts_of mark text) refl is
    where
      head_same : (a b : X) → a ∷ [] ≡ b ∷ [] → a ≡ b
      head_same a b h = cc

      by : (parts : List (List ℕ)) → parts_of mark text ≡ parts → map f parts ≡ item ∷ []
          → (Lacks mark text) × (f text ≡ item)
      by [] e is = let no : [] ≡ item ∷ [] = is in cc no
      by (part ∷ []) e is =
          let joined : part ≡ text = sym (ap (join_with_byte mark) e) ∙ join_with_byte-slice_split mark text in
          let apart : Lacks mark part = All-head (Lacks mark) part [] (rw e at (parts_of-apart mark text)) in
          (All-same (λ c. c ≢ mark) text part (sym joined) apart, ap f (sym joined) ∙ head_same (f part) item is)
      by (part ∷ other ∷ parts) e is = cc is

  pub plain_found : IsDelimiters d → (text bytes : List ℕ) → LacksDelimiters d bytes
      → repeats_of d text ≡ plain_field bytes → IsPlainText d text
  plain_found good text bytes free is =
      let repeat = only_part (components_of d) d.repeat text (plain_component bytes ∷ []) is in
      let component = only_part (symbols_of d) d.component text (plain_component bytes) repeat.1 in
      record {
        repeat = repeat.0;
        component = component.0;
        escape = escape_lacks text (symbols_of d text) (IsComponent-symbols_of d good text) bytes component.1 free;
      }

  -- it is those characters
  pub plain_same : IsDelimiters d → (text bytes : List ℕ) → LacksDelimiters d bytes
      → repeats_of d text ≡ plain_field bytes → text ≡ bytes
  plain_same good text bytes free is =
      let found = plain_found good text bytes free is in
      let read : plain_field text ≡ plain_field bytes =
      sym (plain_read d text found.repeat found.component found.escape) ∙ is in
      characters text bytes (inner read)
    where
      inner : {a b : Symbols} → (a ∷ []) ∷ [] ≡ (b ∷ []) ∷ [] → a ≡ b
      inner h = cc

      characters : (xs ys : List ℕ) → plain_component xs ≡ plain_component ys → xs ≡ ys
      characters [] [] h = refl
      characters [] (y ∷ ys) h = cc h
      characters (x ∷ xs) [] h = cc h
      characters (x ∷ xs) (y ∷ ys) h =
          let head : x ≡ y = cc h in
          let tail : plain_component xs ≡ plain_component ys = cc h in
          rw (head, characters xs ys tail) refl

  -- a decimal digit is no delimiter
  digit_lacks : IsDelimiters d → (digit : ℕ) → 48 ≤ digit → digit ≤ 57 → LacksDelimiters d (digit ∷ [])
  digit_lacks good digit low high = record {
    field = alone d.field (digit-apart digit d.field low high good.field_is);
    repeat = alone d.repeat (digit-apart digit d.repeat low high good.repeat_is);
    component = alone d.component (digit-apart digit d.component low high good.component_is);
    escape = alone d.escape (digit-apart digit d.escape low high good.escape_is);
  }
    where
      alone : (mark : ℕ) → digit ≢ mark → Lacks mark (digit ∷ [])
      alone mark other = All-cons (λ c. c ≢ mark) digit [] other (All-nil (λ c. c ≢ mark))

  -- The texts whose first field is a digit with another field after it: a delimiter, the digit, and a delimiter.
  digit_found : IsDelimiters d → (text : List ℕ) (digit : ℕ) → 48 ≤ digit → digit ≤ 57
      → 1 < length (fields_of d text) → slice_get (fields_of d text) 0 ≡ Some (plain_field (digit ∷ []))
      → (2 < length text) × ((get_or text 1 0 ≡ digit) × (get_or text 2 0 ≡ d.field))
  digit_found good [] digit low high more is = absurd (omega (arith, more))
  digit_found good (byte ∷ bytes) digit low high more is = by (parts_of d.field bytes) refl more is
    where
      some_same : {X : Type 0} {a b : X} → Some a ≡ Some b → a ≡ b
      some_same h = cc

      by : (parts : List (List ℕ)) → parts_of d.field bytes ≡ parts → 1 < length (map (repeats_of d) parts)
          → slice_get (map (repeats_of d) parts) 0 ≡ Some (plain_field (digit ∷ []))
          → (2 < length (byte ∷ bytes)) × ((get_or (byte ∷ bytes) 1 0 ≡ digit) × (get_or (byte ∷ bytes) 2 0 ≡ d.field))
      by [] e more is = absurd (omega (arith, more))
      by (part ∷ []) e more is = absurd (omega (arith, more))
      by (part ∷ next ∷ parts) e more is =
          let same : part ≡ digit ∷ [] =
          plain_same good part (digit ∷ []) (digit_lacks good digit low high) (some_same is) in
          let joined : bytes ≡ join_with_byte d.field (part ∷ next ∷ parts) =
          sym (join_with_byte-slice_split d.field bytes) ∙ ap (join_with_byte d.field) e in
          let whole : bytes ≡ digit ∷ d.field ∷ join_with_byte d.field (next ∷ parts) =
          joined ∙ ap (λ (p : List ℕ). join_with_byte d.field (p ∷ next ∷ parts)) same in
          rw whole (omega arith, (refl, refl))

  -- the same of a record that is in a text
  pub digit_after : IsDelimiters d → (text : List ℕ) (kind : Kind) (entry : Borrowed RecordContent)
      → borrowed d (record { kind = kind; fields = fields_of d text }) ≡ entry → (digit : ℕ) → 48 ≤ digit → digit ≤ 57
      → 1 < length entry.content.fields → slice_get entry.content.fields 0 ≡ Some (plain_field (digit ∷ []))
      → (2 < length text) × ((get_or text 1 0 ≡ digit) × (get_or text 2 0 ≡ d.field))
  digit_after good text kind entry is digit low high more first =
      let count = ap (λ (r : Borrowed RecordContent). length r.content.fields) is in
      let same = ap (λ (r : Borrowed RecordContent). slice_get r.content.fields 0) is in
      digit_found good text digit low high (omega (arith, more, count)) (same ∙ first)
