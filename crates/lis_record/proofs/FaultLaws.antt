-- A text is a record exactly where none of the faults is.
use Rattle.lis_record_values.specs.declared.faults.RecordFault.{RecordFault}
use Rattle.lis_record_values.specs.declared.faults.DelimiterPartFault.{DelimiterPartFault}
use Rattle.lis_record_values.specs.declared.delimiting.DelimiterFault.{DelimiterFault}
use Rattle.std.proofs.Common.{◌≡◌, ◌≢◌, ℕ, ◌≤◌, Bool, true, false, cond, ltb, List, [], ◌∷◌, ◌++◌, length, Option}
use Rattle.std.proofs.Common.{Some, None, option_map, refl, sym, ap, ◌∙◌, eq-eqb, arith, get_or, inl, inr, drop, ◌<◌}
use Rattle.std.specs.List.{flat_map}
use Rattle.std.proofs.lemmas.Bool.Decides.{eqb_tells}
use Rattle.lis_record_values.specs.declared.kinds.Kind.{Kind}
use Rattle.lis_record_values.specs.declared.kinds.Kind.TheVariants as kinds
use Rattle.lis_record_values.specs.declared.faults.DelimiterPartFault.TheVariants.{Trailing, Short, Fault}
use Rattle.lis_record_values.specs.declared.faults.RecordFault.TheVariants as record_faults
use Rattle.lis_record_values.specs.Delimiters.{DelimiterBytes, IsDelimiters, delimiter_fault, delimiters_of}
use Rattle.lis_record.specs.Faults.{delimiter_part_fault, header_fault, is_other_kind, record_fault}
use Rattle.lis_record.specs.Faults.{record_text_fault, is_header_kind}
use Rattle.lis_record_values.specs.Text.{trailing_byte, IsRecordText, is_text_byte, bad_byte_place, record_limit}
use Rattle.lis_record_read.specs.FrontReading.{fields_of}
use Rattle.lis_record_values.specs.Kinds.{kind_of}
use Rattle.lis_record_values.specs.Relation.{AreFieldTexts, IsRecord, declared_part}
use Rattle.lis_record_values.specs.Shape.{RecordContent}
use Rattle.lis_record_values.proofs.FirstFaults.{AllPass-position, ltb-past, ltb_decides, option_map-none}
use Rattle.lis_record_values.proofs.FirstFaults.{option_or-none}
use Rattle.lis_record_values.proofs.FirstFaults.{none_cond, position-AllPass}
use Rattle.lis_record_values.proofs.DelimiterFaults.{IsDelimiters-delimiters_of, delimiter_fault-IsDelimiters}
use Rattle.lis_record_values.proofs.KindCases.{other_kind}
use Rattle.lis_record.proofs.RecordTexts.{AreFieldTexts-fields_of, AreFieldTexts-none}

cond_none : {X : Type 0} (b : Bool) (x : X) → cond b None (Some x) ≡ None → b ≡ true
cond_none true x h = refl
cond_none false x h = cc

-- ---- text bytes, and not too many

pub record_text_fault-none : (text : List ℕ) → record_text_fault text ≡ None
    → IsRecordText text × (length text ≤ record_limit)
unfolding record_text_fault
record_text_fault-none text h =
    let both = option_or-none (option_map record_faults.Byte (bad_byte_place text))
    (cond (ltb record_limit (length text)) (Some record_faults.TooLong) None) h in
    let not_long = none_cond (ltb record_limit (length text)) record_faults.TooLong both.1 in (
      AllPass-position is_text_byte text (option_map-none record_faults.Byte (bad_byte_place text) both.0),
      elim (ltb_decides record_limit (length text)) [ inl past ↦ cc (not_long, past.0) | inr within ↦ within.1 ],
    )

pub none-record_text_fault : (text : List ℕ) → IsRecordText text → length text ≤ record_limit
    → record_text_fault text ≡ None
unfolding record_text_fault
none-record_text_fault text all short =
    rw (position-AllPass is_text_byte text all, ltb-past record_limit (length text) short) refl

-- ---- records other than headers

pub other_than_header : (kind : Kind) → is_other_kind (Some kind) ≡ true → kind ≢ kinds.H
other_than_header kinds.H h = cc
other_than_header kinds.P h = λ e. cc
other_than_header kinds.O h = λ e. cc
other_than_header kinds.R h = λ e. cc
other_than_header kinds.C h = λ e. cc
other_than_header kinds.Q h = λ e. cc
other_than_header kinds.M h = λ e. cc
other_than_header kinds.S h = λ e. cc
other_than_header kinds.L h = λ e. cc

pub declared_part-other : (d : DelimiterBytes) (kind : Kind) → kind ≢ kinds.H → declared_part d kind ≡ []
declared_part-other d = other_kind (λ kind. declared_part d kind ≡ []) refl refl refl refl refl refl refl refl

pub is_other_kind-other : (kind : Kind) → kind ≢ kinds.H → is_other_kind (Some kind) ≡ true
is_other_kind-other =
    other_kind (λ kind. is_other_kind (Some kind) ≡ true) refl refl refl refl refl refl refl refl

-- where nothing but a field delimiter follows, what is after it are fields
AreFieldTexts-following : (d : DelimiterBytes) → IsDelimiters d → (bytes : List ℕ)
    → ((byte : ℕ) (rest : List ℕ) → bytes ≡ byte ∷ rest → byte ≡ d.field) → AreFieldTexts d bytes (fields_of d bytes)
AreFieldTexts-following d good [] h = AreFieldTexts-none d good
AreFieldTexts-following d good (byte ∷ rest) h = rw (h byte rest refl) (AreFieldTexts-fields_of d good rest)

trailing_byte-field : (field : ℕ) (bytes : List ℕ) → trailing_byte field bytes ≡ None → (byte : ℕ) (rest : List ℕ)
    → bytes ≡ byte ∷ rest → byte ≡ field
trailing_byte-field field [] h byte rest e = cc
trailing_byte-field field (first ∷ others) h byte rest e =
    let same : first ≡ byte = cc in
    elim (eqb_tells first field) [
      | inl is ↦ sym same ∙ is.1
      | inr other ↦ let g : Some first ≡ None = rw other.0 at h in cc
    ]

-- a text without a fault is a record
pub IsRecord-fields_of : (d : DelimiterBytes) → IsDelimiters d → (letter : ℕ) (bytes : List ℕ) (kind : Kind)
    → kind_of letter ≡ Some kind → kind ≢ kinds.H
    → trailing_byte d.field bytes ≡ None → record_text_fault (letter ∷ bytes) ≡ None
    → IsRecord d (letter ∷ bytes) (record { kind = kind; fields = fields_of d bytes })
IsRecord-fields_of d good letter bytes kind letter_is other second texts =
    let fine = record_text_fault-none (letter ∷ bytes) texts in
    record {
      letter = letter;
      fields_text = bytes;
      whole = ap (λ (l : List ℕ). letter ∷ l ++ bytes) (sym (declared_part-other d kind other));
      kind_is = letter_is;
      fields_are = AreFieldTexts-following d good bytes (trailing_byte-field d.field bytes second);
      is_text = fine.0;
      short = fine.1;
    }

-- fields begin with a field delimiter
fields_text-first : (d : DelimiterBytes) (parts : List (List ℕ))
    → trailing_byte d.field (flat_map (λ part. d.field ∷ part) parts) ≡ None
fields_text-first d [] = refl
fields_text-first d (part ∷ parts) = rw (eq-eqb d.field d.field refl) refl

-- a record has no fault
pub record_fault-IsRecord : (d : DelimiterBytes) (text : List ℕ) (content : RecordContent) → content.kind ≢ kinds.H
    → IsRecord d text content → record_fault d text ≡ None
unfolding record_fault
record_fault-IsRecord d text content other h =
    let bare : text ≡ h.letter ∷ h.fields_text = h.whole
    ∙ ap (λ (l : List ℕ). h.letter ∷ l ++ h.fields_text) (declared_part-other d content.kind other) in
    let second : trailing_byte d.field h.fields_text ≡ None =
    ap (trailing_byte d.field) h.fields_are.joined ∙ fields_text-first d h.fields_are.parts in
    let texts : record_text_fault (h.letter ∷ h.fields_text) ≡ None =
    rw bare at (none-record_text_fault text h.is_text h.short) in
    rw (bare, h.kind_is, is_other_kind-other content.kind other, second, texts) refl

-- ---- headers

-- a text without a fault is a header, under the delimiters that it declares
pub IsRecord-header : (letter f r c e : ℕ) (bytes : List ℕ) → kind_of letter ≡ Some kinds.H
    → delimiter_fault (f ∷ r ∷ c ∷ e ∷ []) ≡ None → trailing_byte f bytes ≡ None
    → record_text_fault (letter ∷ f ∷ r ∷ c ∷ e ∷ bytes) ≡ None
    → IsRecord (delimiters_of f r c e) (letter ∷ f ∷ r ∷ c ∷ e ∷ bytes)
    (record { kind = kinds.H; fields = fields_of (delimiters_of f r c e) bytes })
IsRecord-header letter f r c e bytes letter_is marks trailing texts =
    let d = delimiters_of f r c e in
    let fine = record_text_fault-none (letter ∷ f ∷ r ∷ c ∷ e ∷ bytes) texts in
    record {
      letter = letter;
      fields_text = bytes;
      whole = refl;
      kind_is = letter_is;
      fields_are = AreFieldTexts-following d (IsDelimiters-delimiters_of f r c e marks) bytes
          (trailing_byte-field f bytes trailing);
      is_text = fine.0;
      short = fine.1;
    }

-- a header's text by its parts
pub header_text : (d : DelimiterBytes) (text : List ℕ) (content : RecordContent) → content.kind ≡ kinds.H
    → (h : IsRecord d text content)
    → text ≡ h.letter ∷ d.field ∷ d.repeat ∷ d.component ∷ d.escape ∷ h.fields_text
header_text d text content is_header h = h.whole
    ∙ ap (λ (k : Kind). h.letter ∷ declared_part d k ++ h.fields_text) is_header

-- a header has no fault
pub header_fault-IsRecord : (d : DelimiterBytes) → IsDelimiters d → (text : List ℕ) (content : RecordContent)
    → content.kind ≡ kinds.H → IsRecord d text content → header_fault text ≡ None
unfolding header_fault delimiter_part_fault
header_fault-IsRecord d good text content is_header h =
    let parts = header_text d text content is_header h in
    let letter : kind_of h.letter ≡ Some kinds.H = h.kind_is ∙ ap Some is_header in
    let marks : delimiter_fault (d.field ∷ d.repeat ∷ d.component ∷ d.escape ∷ []) ≡ None =
    delimiter_fault-IsDelimiters d good in
    let trailing : trailing_byte d.field h.fields_text ≡ None =
    ap (trailing_byte d.field) h.fields_are.joined ∙ fields_text-first d h.fields_are.parts in
    let texts : record_text_fault (h.letter ∷ d.field ∷ d.repeat ∷ d.component ∷ d.escape ∷ h.fields_text) ≡ None =
    rw parts at (none-record_text_fault text h.is_text h.short) in
    rw (parts, letter, marks, trailing, texts) refl

-- ---- the first fault of a text, as the code finds it

pub record_fault-empty : (d : DelimiterBytes) (text : List ℕ) → length text ≡ 0
    → record_fault d text ≡ Some record_faults.Empty
unfolding record_fault
record_fault-empty d [] h = refl
record_fault-empty d (letter ∷ bytes) h = absurd (omega arith)

pub record_fault-kind : (d : DelimiterBytes) (text : List ℕ) (letter : ℕ) (bytes : List ℕ) → text ≡ letter ∷ bytes
    → is_other_kind (kind_of letter) ≡ false
    → record_fault d text ≡ Some (record_faults.UnknownKind letter)
unfolding record_fault
record_fault-kind d text letter bytes e h = rw (e, h) refl

pub record_fault-trailing : (d : DelimiterBytes) (text : List ℕ) (letter : ℕ) (bytes : List ℕ) (byte : ℕ)
    → text ≡ letter ∷ bytes → is_other_kind (kind_of letter) ≡ true
    → trailing_byte d.field bytes ≡ Some byte → record_fault d text ≡ Some (record_faults.UnknownKind byte)
unfolding record_fault
record_fault-trailing d text letter bytes byte e h t = rw (e, h, t) refl

pub record_fault-text : (d : DelimiterBytes) (text : List ℕ) (letter : ℕ) (bytes : List ℕ) (fault : RecordFault)
    → text ≡ letter ∷ bytes → is_other_kind (kind_of letter) ≡ true
    → trailing_byte d.field bytes ≡ None → record_text_fault text ≡ Some fault → record_fault d text ≡ Some fault
unfolding record_fault
record_fault-text d text letter bytes fault e h t f =
    let g : record_text_fault (letter ∷ bytes) ≡ Some fault = rw e at f in
    rw (e, h, t, g) refl

pub header_fault-empty : (text : List ℕ) → length text ≡ 0 → header_fault text ≡ Some record_faults.Empty
unfolding header_fault
header_fault-empty [] h = refl
header_fault-empty (letter ∷ bytes) h = absurd (omega arith)

pub header_fault-kind : (text : List ℕ) (letter : ℕ) (bytes : List ℕ) → text ≡ letter ∷ bytes
    → is_header_kind (kind_of letter) ≡ false
    → header_fault text ≡ Some (record_faults.UnknownKind letter)
unfolding header_fault
header_fault-kind text letter bytes e h = rw (e, h) refl

pub header_fault-part : (text : List ℕ) (letter : ℕ) (bytes : List ℕ) (fault : DelimiterPartFault)
    → text ≡ letter ∷ bytes → is_header_kind (kind_of letter) ≡ true
    → delimiter_part_fault bytes ≡ Some fault → header_fault text ≡ Some (record_faults.DelimiterPart fault)
unfolding header_fault
header_fault-part text letter bytes fault e h p = rw (e, h, p) refl

pub header_fault-text : (text : List ℕ) (letter : ℕ) (bytes : List ℕ) (fault : RecordFault) → text ≡ letter ∷ bytes
    → is_header_kind (kind_of letter) ≡ true
    → delimiter_part_fault bytes ≡ None → record_text_fault text ≡ Some fault → header_fault text ≡ Some fault
unfolding header_fault
header_fault-text text letter bytes fault e h p f =
    let g : record_text_fault (letter ∷ bytes) ≡ Some fault = rw e at f in
    rw (e, h, p, g) refl

pub delimiter_part_fault-short : (text : List ℕ) → length text < 4 → delimiter_part_fault text ≡ Some Short
unfolding delimiter_part_fault
delimiter_part_fault-short [] h = refl
delimiter_part_fault-short (f ∷ []) h = refl
delimiter_part_fault-short (f ∷ r ∷ []) h = refl
delimiter_part_fault-short (f ∷ r ∷ c ∷ []) h = refl
delimiter_part_fault-short (f ∷ r ∷ c ∷ e ∷ bytes) h = absurd (omega arith)

pub delimiter_part_fault-marks : (text : List ℕ) (f r c e : ℕ) (bytes : List ℕ) (fault : DelimiterFault)
    → text ≡ f ∷ r ∷ c ∷ e ∷ bytes → delimiter_fault (f ∷ r ∷ c ∷ e ∷ []) ≡ Some fault
    → delimiter_part_fault text ≡ Some (Fault fault)
unfolding delimiter_part_fault
delimiter_part_fault-marks text f r c e bytes fault whole h = rw (whole, h) refl

pub delimiter_part_fault-trailing : (text : List ℕ) (f r c e : ℕ) (bytes : List ℕ) (o : Option ℕ)
    → text ≡ f ∷ r ∷ c ∷ e ∷ bytes → delimiter_fault (f ∷ r ∷ c ∷ e ∷ []) ≡ None
    → trailing_byte f bytes ≡ o → delimiter_part_fault text ≡ option_map Trailing o
unfolding delimiter_part_fault
delimiter_part_fault-trailing text f r c e bytes o whole h t = rw (whole, h, t) refl

-- a text of four bytes and more, byte by byte
pub four_bytes : (text : List ℕ) → 4 ≤ length text
    → text ≡ get_or text 0 0 ∷ get_or text 1 0 ∷ get_or text 2 0 ∷ get_or text 3 0 ∷ drop 4 text
four_bytes [] h = absurd (omega arith)
four_bytes (f ∷ []) h = absurd (omega arith)
four_bytes (f ∷ r ∷ []) h = absurd (omega arith)
four_bytes (f ∷ r ∷ c ∷ []) h = absurd (omega arith)
four_bytes (f ∷ r ∷ c ∷ e ∷ bytes) h = refl
