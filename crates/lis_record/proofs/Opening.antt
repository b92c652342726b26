-- What a text without fault opens with, and the record that it then is.
use Rattle.std.proofs.Common.{◌≡◌, ◌≢◌, ℕ, List, ◌∷◌, None, Result, Ok, drop, refl, ap, sym, ◌∙◌}
use Rattle.lis_record_values.specs.declared.kinds.Kind.{Kind}
use Rattle.lis_record_values.specs.declared.kinds.Kind.TheVariants as kinds
use Rattle.lis_record_values.specs.Delimiters.{DelimiterBytes, IsDelimiters}
use Rattle.lis_record.specs.Faults.{delimiter_part_fault, header_fault, record_fault}
use Rattle.lis_record.specs.inside.Opening.{DeclaresDelimiters, OpensHeader, OpensRecord}
use Rattle.lis_record_read.specs.FrontReading.{fields_of}
use Rattle.lis_record.specs.Borrowed.{Borrowed, front_length, borrowed, record_in}
use Rattle.lis_record_values.specs.declared.faults.RecordFault.{RecordFault}
use Rattle.lis_record_values.specs.Relation.{IsRecord}
use Rattle.lis_record_values.specs.Shape.{Fields, RecordContent}
use Rattle.lis_record_values.proofs.DelimiterFaults.{delimiter_fault-IsDelimiters}
use Rattle.lis_record.proofs.FaultLaws.{IsRecord-fields_of, IsRecord-header, delimiter_part_fault-trailing}
use Rattle.lis_record.proofs.FaultLaws.{header_fault-IsRecord, record_fault-IsRecord}
use Rattle.lis_record_values.proofs.KindCases.{other_kind}
use Rattle.lis_record.proofs.RecordTexts.{IsRecord-header_one, IsRecord-one}

-- delimiters that are declared are no fault
pub delimiter_part_fault-declares : (text : List ℕ) (d : DelimiterBytes) (rest : List ℕ)
    → DeclaresDelimiters text d rest → delimiter_part_fault text ≡ None
delimiter_part_fault-declares text d rest h =
    delimiter_part_fault-trailing text d.field d.repeat d.component d.escape rest None h.whole
    (delimiter_fault-IsDelimiters d h.marks) h.trailing

-- the answer that finds this record
abbrev pub Read : Borrowed RecordContent → Result (Borrowed RecordContent) RecordFault
Read entry = Ok entry

content_with : Kind → Fields → RecordContent
content_with kind fields = record { kind = kind; fields = fields }

-- one byte is before the fields of a record other than a header
front_length-other : (kind : Kind) → kind ≢ kinds.H → front_length kind ≡ 1
front_length-other = other_kind (λ kind. front_length kind ≡ 1) refl refl refl refl refl refl refl refl

module _ (d : DelimiterBytes) (good : IsDelimiters d) (text : List ℕ) (kind : Kind) (rest : List ℕ)
    (h : OpensRecord d text kind rest) where
  pub IsRecord-opened : IsRecord d text (record { kind = kind; fields = fields_of d rest })
  IsRecord-opened =
      rw h.whole (IsRecord-fields_of d good h.letter rest kind h.kind_is h.other h.second (rw h.whole at h.texts))

  pub record_fault-opened : record_fault d text ≡ None
  record_fault-opened = record_fault-IsRecord d text (record { kind = kind; fields = fields_of d rest }) h.other
      IsRecord-opened

  pub record_found : (content : RecordContent) → content ≡ record { kind = kind; fields = fields_of d rest }
      → IsRecord d text content × (content.kind ≢ kinds.H)
  record_found content read = (rw read IsRecord-opened, rw read h.other)

  pub record_only : (content : RecordContent) → content ≡ record { kind = kind; fields = fields_of d rest }
      → (other : RecordContent) → IsRecord d text other → content ≡ other
  record_only content read other r = read ∙ IsRecord-one d good text
      (record { kind = kind; fields = fields_of d rest }) other IsRecord-opened r

  pub borrowed_found : (entry : Borrowed RecordContent) → entry
      ≡ borrowed d (record { kind = kind; fields = fields_of d rest })
      → (entry.delimiters ≡ d) × IsRecord d text entry.content × (entry.content.kind ≢ kinds.H)
  borrowed_found entry is =
      let found = record_found entry.content (ap (λ (e : Borrowed RecordContent). e.content) is) in
      (ap (λ (e : Borrowed RecordContent). e.delimiters) is, found.0, found.1)

  pub borrowed_only : (entry : Borrowed RecordContent) → entry
      ≡ borrowed d (record { kind = kind; fields = fields_of d rest })
      → (other : RecordContent) → IsRecord d text other → Read entry ≡ Read (borrowed d other)
  borrowed_only entry is other r =
      ap Read (is ∙ ap (borrowed d) (record_only (record { kind = kind; fields = fields_of d rest }) refl other r))

  -- its fields are those of what is after the letter
  pub borrowed_placed : (entry : Borrowed RecordContent) → entry
      ≡ borrowed d (record { kind = kind; fields = fields_of d rest })
      → entry ≡ record_in entry.delimiters entry.content.kind text
  borrowed_placed entry is =
      let following : drop (front_length kind) text ≡ rest =
      ap (λ (n : ℕ). drop n text) (front_length-other kind h.other) ∙ ap (drop 1) h.whole in
      rw is (ap (λ (l : List ℕ). borrowed d (record { kind = kind; fields = fields_of d l })) (sym following))

-- a record that was found is the one that is meant
pub same_borrowed : (entry : Borrowed RecordContent) (d : DelimiterBytes) (content : RecordContent)
    → Read entry ≡ Read (borrowed d content) → (entry.delimiters ≡ d) × (entry.content ≡ content)
same_borrowed entry d content h =
    let e : entry ≡ borrowed d content = cc in
    (ap (λ (x : Borrowed RecordContent). x.delimiters) e, ap (λ (x : Borrowed RecordContent). x.content) e)

module _ (text : List ℕ) (d : DelimiterBytes) (rest : List ℕ) (h : OpensHeader text d rest) where
  whole_header : text ≡ h.letter ∷ d.field ∷ d.repeat ∷ d.component ∷ d.escape ∷ rest
  whole_header = h.whole ∙ ap (λ (l : List ℕ). h.letter ∷ l) h.declares.whole

  pub IsRecord-opened_header : IsRecord d text (record { kind = kinds.H; fields = fields_of d rest })
  IsRecord-opened_header =
      rw whole_header (IsRecord-header h.letter d.field d.repeat d.component d.escape rest h.kind_is
      (delimiter_fault-IsDelimiters d h.declares.marks) h.declares.trailing (rw whole_header at h.texts))

  pub header_fault-opened : header_fault text ≡ None
  header_fault-opened = header_fault-IsRecord d h.declares.marks text
      (record { kind = kinds.H; fields = fields_of d rest }) refl IsRecord-opened_header

  pub header_found : (content : RecordContent) → content ≡ record { kind = kinds.H; fields = fields_of d rest }
      → IsDelimiters d × IsRecord d text content × (content.kind ≡ kinds.H)
  header_found content read = (h.declares.marks, rw read IsRecord-opened_header, rw read refl)

  pub header_only : (content : RecordContent) → content ≡ record { kind = kinds.H; fields = fields_of d rest }
      → (e : DelimiterBytes) (other : RecordContent) → IsRecord e text other → (d ≡ e) × (content ≡ other)
  header_only content read e other r =
      let one = IsRecord-header_one d e h.declares.marks text (record { kind = kinds.H; fields = fields_of d rest })
      other refl IsRecord-opened_header r in
      (one.0, read ∙ one.1)

  pub borrowed_header_found : (entry : Borrowed RecordContent)
      → entry ≡ borrowed d (record { kind = kinds.H; fields = fields_of d rest })
      → IsDelimiters entry.delimiters × IsRecord entry.delimiters text entry.content × (entry.content.kind ≡ kinds.H)
  borrowed_header_found entry is = rw is (header_found (record { kind = kinds.H; fields = fields_of d rest }) refl)

  pub borrowed_header_only : (entry : Borrowed RecordContent)
      → entry ≡ borrowed d (record { kind = kinds.H; fields = fields_of d rest })
      → (e : DelimiterBytes) (other : RecordContent) → IsRecord e text other → Read entry ≡ Read (borrowed e other)
  borrowed_header_only entry is e other r =
      let content : RecordContent = record { kind = kinds.H; fields = fields_of d rest } in
      let same = header_only content refl e other r in
      ap Read (is ∙ ap (λ (x : DelimiterBytes). borrowed x content) same.0 ∙ ap (borrowed e) same.1)

  pub borrowed_header_placed : (entry : Borrowed RecordContent)
      → entry ≡ borrowed d (record { kind = kinds.H; fields = fields_of d rest })
      → entry ≡ record_in entry.delimiters entry.content.kind text
  borrowed_header_placed entry is =
      rw is (ap (λ (l : List ℕ). borrowed d (record { kind = kinds.H; fields = fields_of d l }))
      (sym (ap (drop 5) whole_header)))
