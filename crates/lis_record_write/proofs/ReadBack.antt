-- What is encoded is a text of the record that it was encoded from.
use Rattle.std.proofs.Common.{◌≡◌, ◌≢◌, ℕ, zero, suc, ◌+◌, ◌<◌, ◌≤◌, true, false, not, ltb, List, [], ◌∷◌, ◌++◌, map}
use Rattle.std.proofs.Common.{length, Some, None, option_map, refl, sym, ap, arith, get_or, inl, inr, append_assoc}
use Rattle.std.proofs.Common.{Bool}
use Rattle.std.proofs.lemmas.List.{length-map}
use Rattle.std.specs.List.{All, AllPass, AllZip, flat_map, join_with_byte, list_all, position}
use Rattle.std.proofs.lemmas.Bool.Decides.{eqb_tells, nat_tests}
use Rattle.std.proofs.lemmas.List.Elements.{All-append, All-cons, All-head, All-map, All-nil, All-tail, All-weaker}
use Rattle.std.proofs.lemmas.List.Sums.{AllPass-from_list_all}
use Rattle.hex.specs.Hex.{IsBytes, encode_lower, encode_with, is_hex_digit}
use Rattle.hex.proofs.HexLemmas.{decode_of-encode_lower, decode_of-ok}
use Rattle.lis_record_values.specs.declared.kinds.Kind.{Kind}
use Rattle.lis_record_values.specs.declared.symbols.Sym.{Sym}
use Rattle.lis_record_values.specs.declared.symbols.Sym.TheVariants.{Char, Raw, On, Off}
use Rattle.lis_record_values.specs.Delimiters.{DelimiterBytes, IsDelimiters, is_punctuation}
use Rattle.lis_record_values.specs.Escapes.{IsComponent, escape, escape_of, nothing, plain, raw_symbols}
use Rattle.lis_record_write.specs.WriteFaults.{check_fault, is_text_component, is_text_field, is_text_repeat}
use Rattle.lis_record_write.specs.WriteFaults.{is_text_symbol, long_fault}
use Rattle.lis_record_values.specs.Kinds.{kind_of, letter_of}
use Rattle.lis_record_values.specs.Relation.{AreFieldTexts, IsField, IsJoined, IsRecord, IsRepeat, Lacks, declared_part}
use Rattle.lis_record_values.specs.Shape.{first_number, AreSome, AreSymbols, Components, Fields, IsFieldShape}
use Rattle.lis_record_values.specs.Shape.{IsRecordShape}
use Rattle.lis_record_values.specs.Shape.{IsRepeatShape, IsSymbol, RecordContent, Repeats, Symbols}
use Rattle.lis_record_write.specs.Encoding.{letter_encoding, encoded, encoded_component, encoded_field, encoded_repeat}
use Rattle.lis_record_write.specs.Encoding.{encoded_symbol}
use Rattle.lis_record_values.specs.Text.{IsRecordText, is_text_byte, record_limit}
use Rattle.lis_record_write.specs.declared.faults.WriteFault.TheVariants.{CharNotText, TooLong}
use Rattle.lis_record_values.proofs.FirstFaults.{ltb_decides}
use Rattle.lis_record_values.proofs.FirstFaults.{AllPass-position, option_map-none, option_or-none}
use Rattle.lis_record_values.proofs.FirstFaults.{none_cond}
use Rattle.lis_record_values.proofs.KindCases.{each_kind}

-- ---- what can be written

-- a symbol of bytes whose character is text
abbrev pub IsWritableSymbol : Sym → Type 0
IsWritableSymbol symbol = IsSymbol symbol × (is_text_symbol symbol ≡ true)

abbrev pub AreWritable : Symbols → Type 0
AreWritable symbols = All IsWritableSymbol symbols

abbrev pub IsWritableRepeat : Components → Type 0
IsWritableRepeat components = AreSome AreWritable components

abbrev pub IsWritableField : Repeats → Type 0
IsWritableField repeats = AreSome IsWritableRepeat repeats

AreWritable-text : (symbols : Symbols) → AreSymbols symbols → is_text_component symbols ≡ true → AreWritable symbols
AreWritable-text symbols shape test = λ k e below.
    (shape k e below, AllPass-from_list_all is_text_symbol symbols test k e below)

-- where each item passes a test, and an item of its shape that passes is as it is to be
AreSome-text : {A : Type 0} (IsShaped P : A → Type 0) (test : A → Bool)
    → ((item : A) → IsShaped item → test item ≡ true → P item) → (items : List A) → AreSome IsShaped items
    → list_all test items ≡ true → AreSome P items
AreSome-text IsShaped P test passes items shape all = record {
  some = shape.some;
  each = λ k e below. passes (get_or items k e) (shape.each k e below) (AllPass-from_list_all test items all k e below);
}

IsWritableRepeat-text : (components : Components) → IsRepeatShape components → is_text_repeat components ≡ true
    → IsWritableRepeat components
IsWritableRepeat-text = AreSome-text AreSymbols AreWritable is_text_component AreWritable-text

pub IsWritableField-text : (repeats : Repeats) → IsFieldShape repeats → is_text_field repeats ≡ true
    → IsWritableField repeats
IsWritableField-text = AreSome-text IsRepeatShape IsWritableRepeat is_text_repeat IsWritableRepeat-text

abbrev IsTextByte : ℕ → Type 0
IsTextByte byte = is_text_byte byte ≡ true

-- ---- the bytes of an encoding

-- a byte that a field's text may have: a text byte other than the field delimiter
pub record IsFieldByte (d : DelimiterBytes) (byte : ℕ) : Type 0 where
  pub is_text : is_text_byte byte ≡ true
  pub no_field : byte ≢ d.field

-- a byte that a repeat's text may have
pub record IsRepeatByte (d : DelimiterBytes) (byte : ℕ) : Type 0 where
  pub inner : IsFieldByte d byte
  pub no_repeat : byte ≢ d.repeat

-- a byte that a component's text may have
pub record IsComponentByte (d : DelimiterBytes) (byte : ℕ) : Type 0 where
  pub inner : IsRepeatByte d byte
  pub no_component : byte ≢ d.component

text-punctuation : (byte : ℕ) → is_punctuation byte ≡ true → is_text_byte byte ≡ true
unfolding is_punctuation is_text_byte
text-punctuation byte h = grind (arith, nat_tests)

punctuation-digit : (byte : ℕ) → is_hex_digit byte ≡ true → is_punctuation byte ≡ false
unfolding is_punctuation
punctuation-digit byte h = grind (arith, nat_tests)

text-digit : (byte : ℕ) → is_hex_digit byte ≡ true → is_text_byte byte ≡ true
unfolding is_text_byte
text-digit byte h = grind (arith, nat_tests)

other_byte : (byte mark : ℕ) → is_punctuation byte ≡ false → is_punctuation mark ≡ true → byte ≢ mark
other_byte byte mark is_no is_yes same = let g : is_punctuation mark ≡ false = rw (← same) is_no in cc

one_byte : (byte : ℕ) → byte < 256 → IsBytes (byte ∷ [])
one_byte byte h zero = h
one_byte byte h (suc k) = omega arith

module _ (d : DelimiterBytes) (good : IsDelimiters d) where
  -- a text byte that is no punctuation
  component_byte : (byte : ℕ) → is_text_byte byte ≡ true → is_punctuation byte ≡ false → IsComponentByte d byte
  component_byte byte text plain_byte = record {
    inner = record {
      inner = record { is_text = text; no_field = other_byte byte d.field plain_byte good.field_is };
      no_repeat = other_byte byte d.repeat plain_byte good.repeat_is;
    };
    no_component = other_byte byte d.component plain_byte good.component_is;
  }

  escape_byte : IsComponentByte d d.escape
  escape_byte = record {
    inner = record {
      inner = record {
        is_text = text-punctuation d.escape good.escape_is;
        no_field =
            λ same. good.field_escape (sym same);
      };
      no_repeat = λ same. good.repeat_escape (sym same);
    };
    no_component = λ same. good.component_escape (sym same);
  }

  letter_bytes : (letter : ℕ) → IsComponentByte d letter → All (IsComponentByte d) (letter_encoding d letter)
  letter_bytes letter h =
      All-cons (IsComponentByte d) d.escape (letter ∷ d.escape ∷ []) escape_byte
      (All-cons (IsComponentByte d) letter (d.escape ∷ []) h
      (All-cons (IsComponentByte d) d.escape [] escape_byte (All-nil (IsComponentByte d))))

  digit_bytes : (digits : List ℕ) → AllPass is_hex_digit digits → All (IsComponentByte d) digits
  digit_bytes digits h = All-weaker (λ c. is_hex_digit c ≡ true) (IsComponentByte d)
      (λ c digit. component_byte c (text-digit c digit) (punctuation-digit c digit)) digits h

  raw_bytes : (byte : ℕ) → byte < 256 → AllPass is_hex_digit (encode_lower (byte ∷ []))
  raw_bytes byte h =
      (decode_of-ok (encode_lower (byte ∷ [])) (byte ∷ []) (decode_of-encode_lower (byte ∷ []) (one_byte byte h))).1

  -- a symbol is encoded in bytes that a component may have
  symbol_bytes : (symbol : Sym) → IsWritableSymbol symbol → All (IsComponentByte d) (encoded_symbol d symbol)
  unfolding encoded_symbol is_punctuation is_text_byte
  symbol_bytes On h = letter_bytes 72 (component_byte 72 refl refl)
  symbol_bytes Off h = letter_bytes 78 (component_byte 78 refl refl)
  symbol_bytes (Raw byte) h =
      All-cons (IsComponentByte d) d.escape (88 ∷ encode_lower (byte ∷ []) ++ d.escape ∷ []) escape_byte
      (All-cons (IsComponentByte d) 88 (encode_lower (byte ∷ []) ++ d.escape ∷ []) (component_byte 88 refl refl)
      (All-append (IsComponentByte d) (encode_lower (byte ∷ [])) (d.escape ∷ [])
      (digit_bytes (encode_lower (byte ∷ [])) (raw_bytes byte h.0))
      (All-cons (IsComponentByte d) d.escape [] escape_byte (All-nil (IsComponentByte d)))))
  symbol_bytes (Char byte) h =
      elim (eqb_tells byte d.field) [
        | inl same ↦ rw same.0 (letter_bytes 70 (component_byte 70 refl refl))
        | inr no_field ↦
            elim (eqb_tells byte d.component) [
              | inl same ↦ rw (no_field.0, same.0) (letter_bytes 83 (component_byte 83 refl refl))
              | inr no_component ↦
                  elim (eqb_tells byte d.repeat) [
                    | inl same ↦ rw (no_field.0, no_component.0, same.0) (letter_bytes 82 (component_byte 82 refl refl))
                    | inr no_repeat ↦
                        elim (eqb_tells byte d.escape) [
                          | inl same ↦ rw (no_field.0, no_component.0, no_repeat.0, same.0)
                              (letter_bytes 69 (component_byte 69 refl refl))
                          | inr no_escape ↦
                              rw (no_field.0, no_component.0, no_repeat.0, no_escape.0)
                              (All-cons (IsComponentByte d) byte []
                              (record {
                                inner = record {
                                  inner = record { is_text = h.1; no_field = no_field.1 };
                                  no_repeat = no_repeat.1;
                                };
                                no_component = no_component.1;
                              })
                              (All-nil (IsComponentByte d)))
                        ]
                  ]
            ]
      ]

  component_bytes : (symbols : Symbols) → AreWritable symbols → All (IsComponentByte d) (encoded_component d symbols)
  component_bytes [] h = All-nil (IsComponentByte d)
  component_bytes (symbol ∷ symbols) h =
      All-append (IsComponentByte d) (encoded_symbol d symbol) (encoded_component d symbols)
      (symbol_bytes symbol (All-head IsWritableSymbol symbol symbols h))
      (component_bytes symbols (All-tail IsWritableSymbol symbol symbols h))

  -- a delimiter that is between parts is a byte of the level above
  All-join : (P : ℕ → Type 0) (byte : ℕ) → P byte → (parts : List (List ℕ)) → All (All P) parts
      → All P (join_with_byte byte parts)
  All-join P byte h [] parts_are = All-nil P
  All-join P byte h (x ∷ []) parts_are = All-head (All P) x [] parts_are
  All-join P byte h (x ∷ y ∷ xs) parts_are =
      All-append P x (byte ∷ join_with_byte byte (y ∷ xs)) (All-head (All P) x (y ∷ xs) parts_are)
      (All-cons P byte (join_with_byte byte (y ∷ xs)) h
      (All-join P byte h (y ∷ xs) (All-tail (All P) x (y ∷ xs) parts_are)))

  component_delimiter : IsRepeatByte d d.component
  component_delimiter = record {
    inner = record {
      is_text = text-punctuation d.component good.component_is;
      no_field =
          λ same. good.field_component (sym same);
    };
    no_repeat = λ same. good.repeat_component (sym same);
  }

  repeat_delimiter : IsFieldByte d d.repeat
  repeat_delimiter = record {
    is_text = text-punctuation d.repeat good.repeat_is;
    no_field =
        λ same. good.field_repeat (sym same);
  }

  repeat_parts : (components : Components) → IsWritableRepeat components
      → All (All (IsComponentByte d)) (map (encoded_component d) components)
  repeat_parts components h = All-map (All (IsComponentByte d)) (encoded_component d) components
      (All-weaker AreWritable (λ symbols. All (IsComponentByte d) (encoded_component d symbols)) component_bytes
      components h.each)

  repeat_bytes : (components : Components) → IsWritableRepeat components
      → All (IsRepeatByte d) (encoded_repeat d components)
  repeat_bytes components h =
      All-join (IsRepeatByte d) d.component component_delimiter (map (encoded_component d) components)
      (All-weaker (All (IsComponentByte d)) (All (IsRepeatByte d))
      (λ part. All-weaker (IsComponentByte d) (IsRepeatByte d) (λ byte fine. fine.inner) part)
      (map (encoded_component d) components) (repeat_parts components h))

  field_parts : (repeats : Repeats) → IsWritableField repeats
      → All (All (IsRepeatByte d)) (map (encoded_repeat d) repeats)
  field_parts repeats h = All-map (All (IsRepeatByte d)) (encoded_repeat d) repeats
      (All-weaker IsWritableRepeat (λ components. All (IsRepeatByte d) (encoded_repeat d components)) repeat_bytes
      repeats h.each)

  pub field_bytes : (repeats : Repeats) → IsWritableField repeats → All (IsFieldByte d) (encoded_field d repeats)
  field_bytes repeats h =
      All-join (IsFieldByte d) d.repeat repeat_delimiter (map (encoded_repeat d) repeats)
      (All-weaker (All (IsRepeatByte d)) (All (IsFieldByte d))
      (λ part. All-weaker (IsRepeatByte d) (IsFieldByte d) (λ byte fine. fine.inner) part)
      (map (encoded_repeat d) repeats) (field_parts repeats h))

  -- ---- each level is a text of what it was encoded from

  raw_means : (byte : ℕ) → byte < 256 → escape_of d (88 ∷ encode_lower (byte ∷ [])) ≡ Some (Raw byte ∷ [])
  unfolding escape_of encode_with
  raw_means byte h = ap raw_symbols (decode_of-encode_lower (byte ∷ []) (one_byte byte h))

  -- ---- one symbol in front
  symbol_back : (symbol : Sym) → IsWritableSymbol symbol → (rest : List ℕ) (others : Symbols)
      → IsComponent d rest others → IsComponent d (encoded_symbol d symbol ++ rest) (symbol ∷ others)
  unfolding encoded_symbol escape_of
  symbol_back On h rest others r = escape (72 ∷ []) rest (On ∷ []) others refl refl refl r
  symbol_back Off h rest others r = escape (78 ∷ []) rest (Off ∷ []) others refl refl refl r
  symbol_back (Raw byte) h rest others r =
      escape (88 ∷ encode_lower (byte ∷ [])) rest (Raw byte ∷ []) others
      (ap (λ (l : List ℕ). d.escape ∷ 88 ∷ l) (append_assoc (encode_lower (byte ∷ [])) (d.escape ∷ []) rest)) refl
      (raw_means byte h.0) r
  symbol_back (Char byte) h rest others r =
      elim (eqb_tells byte d.field) [
        | inl same ↦ rw (same.0, same.1) (escape (70 ∷ []) rest (Char d.field ∷ []) others refl refl refl r)
        | inr no_field ↦
            elim (eqb_tells byte d.component) [
              | inl same ↦
                  rw (no_field.0, same.0, same.1) (escape (83 ∷ []) rest (Char d.component ∷ []) others refl refl refl
                  r)
              | inr no_component ↦
                  elim (eqb_tells byte d.repeat) [
                    | inl same ↦ rw (no_field.0, no_component.0, same.0, same.1)
                        (escape (82 ∷ []) rest (Char d.repeat ∷ []) others refl refl refl r)
                    | inr no_repeat ↦
                        elim (eqb_tells byte d.escape) [
                          | inl same ↦ rw (no_field.0, no_component.0, no_repeat.0, same.0, same.1)
                              (escape (69 ∷ []) rest (Char d.escape ∷ []) others refl refl refl r)
                          | inr no_escape ↦ rw (no_field.0, no_component.0, no_repeat.0, no_escape.0)
                              (plain byte rest others refl refl no_escape.1 r)
                        ]
                  ]
            ]
      ]

  component_back : (symbols : Symbols) → AreWritable symbols → IsComponent d (encoded_component d symbols) symbols
  component_back [] h = nothing refl refl
  component_back (symbol ∷ symbols) h =
      symbol_back symbol (All-head IsWritableSymbol symbol symbols h) (encoded_component d symbols) symbols
      (component_back symbols (All-tail IsWritableSymbol symbol symbols h))

  -- related one by one
  AllZip-encoded : {A : Type 0} (IsItem : List ℕ → A → Type 0) (encode : A → List ℕ) (P : A → Type 0)
      → ((item : A) → P item → IsItem (encode item) item)
      → (items : List A) → All P items → AllZip IsItem (map encode items) items
  AllZip-encoded IsItem encode P back [] h = tt
  AllZip-encoded IsItem encode P back (item ∷ items) h =
      (back item (All-head P item items h), AllZip-encoded IsItem encode P back items (All-tail P item items h))

  -- items whose encodings are joined by a byte that is in none of these
  joined_back : {A : Type 0} (mark : ℕ) (IsItem : List ℕ → A → Type 0) (encode : A → List ℕ) (P : A → Type 0)
      (IsByte : ℕ → Type 0) → ((byte : ℕ) → IsByte byte → byte ≢ mark)
      → ((item : A) → P item → IsItem (encode item) item)
      → (items : List A) → 0 < length items → All P items → All (All IsByte) (map encode items)
      → IsJoined mark IsItem (join_with_byte mark (map encode items)) items
  joined_back mark IsItem encode P IsByte differs back items some each bytes = record {
    parts = map encode items;
    some = simp length-map (omega (arith, some));
    joined = refl;
    apart = All-weaker (All IsByte) (Lacks mark) (λ part. All-weaker IsByte (λ byte. byte ≢ mark) differs part)
        (map encode items) bytes;
    each = AllZip-encoded IsItem encode P back items each;
  }

  repeat_back : (components : Components) → IsWritableRepeat components
      → IsRepeat d (encoded_repeat d components) components
  repeat_back components h =
      joined_back d.component (IsComponent d) (encoded_component d) AreWritable (IsComponentByte d)
      (λ byte fine. fine.no_component) component_back components h.some h.each (repeat_parts components h)

  pub field_back : (repeats : Repeats) → IsWritableField repeats → IsField d (encoded_field d repeats) repeats
  field_back repeats h =
      joined_back d.repeat (IsRepeat d) (encoded_repeat d) IsWritableRepeat (IsRepeatByte d)
      (λ byte fine. fine.no_repeat) repeat_back repeats h.some h.each (field_parts repeats h)

  fields_joined : (fields : Fields) → flat_map (λ field. d.field ∷ encoded_field d field) fields
      ≡ flat_map (λ part. d.field ∷ part) (map (encoded_field d) fields)
  fields_joined [] = refl
  fields_joined (field ∷ fields) = ap (λ (l : List ℕ). d.field ∷ encoded_field d field ++ l) (fields_joined fields)

  fields_back : (fields : Fields) → All IsWritableField fields
      → AreFieldTexts d (flat_map (λ field. d.field ∷ encoded_field d field) fields) fields
  fields_back fields h = record {
    parts = map (encoded_field d) fields;
    joined = fields_joined fields;
    apart = All-map (Lacks d.field) (encoded_field d) fields
        (All-weaker IsWritableField (λ field. Lacks d.field (encoded_field d field))
        (λ field fine. All-weaker (IsFieldByte d) (λ byte. byte ≢ d.field) (λ byte is. is.no_field)
        (encoded_field d field) (field_bytes field fine)) fields h);
    each = AllZip-encoded (IsField d) (encoded_field d) IsWritableField field_back fields h;
  }

  fields_text : (fields : Fields) → All IsWritableField fields
      → IsRecordText (flat_map (λ field. d.field ∷ encoded_field d field) fields)
  fields_text [] h = All-nil IsTextByte
  fields_text (field ∷ fields) h =
      All-append IsTextByte (d.field ∷ encoded_field d field) (flat_map (λ next. d.field ∷ encoded_field d next) fields)
      (All-cons IsTextByte d.field (encoded_field d field) (text-punctuation d.field good.field_is)
      (All-weaker (IsFieldByte d) IsTextByte (λ byte is. is.is_text) (encoded_field d field)
      (field_bytes field (All-head IsWritableField field fields h))))
      (fields_text fields (All-tail IsWritableField field fields h))

  letter_text : (kind : Kind) → is_text_byte (letter_of kind) ≡ true
  unfolding is_text_byte
  letter_text = each_kind (λ kind. is_text_byte (letter_of kind) ≡ true) refl refl refl refl refl refl refl refl refl

  declared_text : (kind : Kind) → IsRecordText (declared_part d kind)
  declared_text =
      let none = All-nil IsTextByte in
      each_kind (λ kind. IsRecordText (declared_part d kind))
      (All-cons IsTextByte d.field (d.repeat ∷ d.component ∷ d.escape ∷ []) (text-punctuation d.field good.field_is)
      (All-cons IsTextByte d.repeat (d.component ∷ d.escape ∷ []) (text-punctuation d.repeat good.repeat_is)
      (All-cons IsTextByte d.component (d.escape ∷ []) (text-punctuation d.component good.component_is)
      (All-cons IsTextByte d.escape [] (text-punctuation d.escape good.escape_is) none))))
      none none none none none none none none

  pub encoded_text : (content : RecordContent) → All IsWritableField content.fields → IsRecordText (encoded d content)
  encoded_text content h =
      All-cons IsTextByte (letter_of content.kind) (declared_part d content.kind
      ++ flat_map (λ field. d.field ∷ encoded_field d field) content.fields) (letter_text content.kind)
      (All-append IsTextByte (declared_part d content.kind)
      (flat_map (λ field. d.field ∷ encoded_field d field) content.fields) (declared_text content.kind)
      (fields_text content.fields h))

  kind_of-letter_of : (kind : Kind) → kind_of (letter_of kind) ≡ Some kind
  unfolding kind_of
  kind_of-letter_of =
      each_kind (λ kind. kind_of (letter_of kind) ≡ Some kind) refl refl refl refl refl refl refl refl refl

  pub IsRecord-writable : (content : RecordContent) → All IsWritableField content.fields
      → length (encoded d content) ≤ record_limit → IsRecord d (encoded d content) content
  IsRecord-writable content h short = record {
    letter = letter_of content.kind;
    fields_text = flat_map (λ field. d.field ∷ encoded_field d field) content.fields;
    whole = refl;
    kind_is = kind_of-letter_of content.kind;
    fields_are = fields_back content.fields h;
    is_text = encoded_text content h;
    short = short;
  }

-- a record that can be written
pub IsRecord-encoded : (d : DelimiterBytes) → IsDelimiters d → (content : RecordContent) → IsRecordShape content
    → check_fault d content ≡ None → IsRecord d (encoded d content) content
unfolding check_fault
IsRecord-encoded d good content shape h =
    let number = λ (place : ℕ). place + first_number content.kind in
    let place = position (λ (field : Repeats). not (is_text_field field)) content.fields in
    let both = option_or-none (option_map CharNotText (option_map number place)) (long_fault (encoded d content)) h in
    let texts = AllPass-position is_text_field content.fields
    (option_map-none number place (option_map-none CharNotText (option_map number place) both.0)) in
    let not_long = none_cond (ltb record_limit (length (encoded d content))) TooLong both.1 in
    let short : length (encoded d content) ≤ record_limit =
    elim (ltb_decides record_limit (length (encoded d content)))
    [ inl past ↦ cc (not_long, past.0) | inr within ↦ within.1 ] in
    IsRecord-writable d good content (λ k e below. IsWritableField-text (get_or content.fields k e) (shape k e below)
    (texts k e below)) short
