-- The lines of results, record by record.
use Rattle.std.proofs.Common.{◌≡◌, ℕ, List, [], ◌∷◌, ◌++◌, Option, None, Some, refl, sym, ◌∙◌, ap, subst, append-nil}
use Rattle.std.proofs.Common.{append_assoc, ◌≤◌, ◌+◌, ◌<◌, suc, zero, length, take, drop, arith, MatchOption}
use Rattle.std.specs.List.{slice_get}
use Rattle.std.proofs.lemmas.List.{drop-drop}
use Rattle.std.proofs.lemmas.Grind.{flat_map-append}
use Rattle.lis_record_values.specs.declared.kinds.Kind.{Kind}
use Rattle.lis_record_values.specs.declared.kinds.Kind.TheVariants as kinds
use Rattle.lis_record_values.specs.Delimiters.{DelimiterBytes}
use Rattle.lis_record_values.specs.Shape.{Fields, RecordContent, Repeats, field_at}
use Rattle.lis_record_write.specs.Encoding.{more_fields}
use Rattle.lis_message.specs.Taking.{ComesNext, header, inner}
use Rattle.lis_record.specs.Borrowed.{Borrowed, borrowed}
use Rattle.lis_tree.specs.Begun.{Begun}
use Rattle.lis_record_commands.specs.Messages.{with_record}
use Rattle.lis_record_commands.specs.Results.{field_text, fields_following, printed_fields, result_line_of}
use Rattle.lis_record_commands.specs.Results.{result_lines}
use Rattle.lis_record_commands.specs.Results.{sample_after}
use Rattle.lis_record_commands.specs.inside.Results.{HoldsResults, sample_following}

result_lines-more : (d : DelimiterBytes) (sample : Option Repeats) (records : List RecordContent) (r : RecordContent)
    → result_lines d sample (records ++ r ∷ []) ≡ result_lines d sample records
    ++ result_line_of d (sample_following sample records) r r.kind
result_lines-more d sample [] r = append-nil (result_line_of d sample r r.kind)
result_lines-more d sample (x ∷ records) r =
    let next = sample_after sample x x.kind in
    ap (λ (l : List ℕ). result_line_of d sample x x.kind ++ l) (result_lines-more d next records r)
    ∙ sym (append_assoc (result_line_of d sample x x.kind) (result_lines d next records)
    (result_line_of d (sample_following next records) r r.kind))

sample_following-more : (sample : Option Repeats) (records : List RecordContent) (r : RecordContent)
    → sample_following sample (records ++ r ∷ []) ≡ sample_after (sample_following sample records) r r.kind
sample_following-more sample [] r = refl
sample_following-more sample (x ∷ records) r = sample_following-more (sample_after sample x x.kind) records r

-- what one record adds, where its delimiters are these
record Adds (d : DelimiterBytes) (r : RecordContent) (lines sample lines' sample' : List ℕ)
    (named : Option Repeats) : Type 0 where
  line : lines' ≡ lines ++ result_line_of d named r r.kind
  sample_is : sample' ≡ field_text d (sample_after named r r.kind)

holds_results_by :
    (d : DelimiterBytes) (records : List RecordContent) (r : RecordContent) (lines sample lines' sample' : List ℕ)
    → lines ≡ result_lines d None records → Adds d r lines sample lines' sample' (sample_following None records)
    → HoldsResults lines' sample' (Some (record { delimiters = d; records = records ++ r ∷ [] }))
holds_results_by d records r lines sample lines' sample' lines_are adds = (
  adds.line ∙ ap (λ (l : List ℕ). l ++ result_line_of d (sample_following None records) r r.kind) lines_are
      ∙ sym (result_lines-more d None records r),
  adds.sample_is ∙ ap (field_text d) (sym (sample_following-more None records r)),
)

pub holds_results_on :
    {left : Option Begun} {text : List ℕ} {entry : Borrowed RecordContent} (lines : List ℕ) {sample lines' sample' :
    List ℕ}
    → HoldsResults lines sample left → ComesNext left text entry
    → ((named : Option Repeats) → sample ≡ field_text entry.delimiters named
    → (lines' ≡ lines ++ result_line_of entry.delimiters named entry.content entry.content.kind)
    × (sample' ≡ field_text entry.delimiters (sample_after named entry.content entry.content.kind)))
    → HoldsResults lines' sample' (with_record left entry)
holds_results_on {left = None} {text} {entry} lines {sample} {lines'} {sample'} is comes adds =
    let step = adds None is.1 in
    holds_results_by entry.delimiters [] entry.content lines sample lines' sample' is.0
    (record { line = step.0; sample_is = step.1 })
holds_results_on {left = Some begun} lines is (header l good rec kind) adds = absurd cc
holds_results_on {left = Some begun} {text} {entry} lines {sample} {lines'} {sample'} is (inner b l d rec placed) adds =
    let one : b ≡ begun = same b begun l in
    let marks : begun.delimiters ≡ entry.delimiters = ap (λ (x : Begun). x.delimiters) (sym one) ∙ sym d in
    let step = adds (sample_following None begun.records)
    (is.1 ∙ ap (λ (x : DelimiterBytes). field_text x (sample_following None begun.records)) marks) in
    holds_results_by entry.delimiters begun.records entry.content lines sample lines' sample'
    (is.0 ∙ ap (λ (x : DelimiterBytes). result_lines x None begun.records) marks)
    (record { line = step.0; sample_is = step.1 })
  where
    same : (x y : Begun) → Some y ≡ Some x → x ≡ y
    same x y e = cc

-- a record that is neither an order nor a result
pub other_line : (d : DelimiterBytes) (named : Option Repeats) (r : RecordContent) (kind : Kind) (lines sample : List ℕ)
    → (kind ≡ kinds.O → ⊥) → (kind ≡ kinds.R → ⊥) → sample ≡ field_text d named
    → (lines ≡ lines ++ result_line_of d named r kind) × (sample ≡ field_text d (sample_after named r kind))
other_line d named r kinds.O lines sample order result is = absurd (order refl)
other_line d named r kinds.R lines sample order result is = absurd (result refl)
other_line d named r k lines sample order result is = (sym (append-nil lines), is)

-- an order
pub order_line : (d : DelimiterBytes) (named : Option Repeats) (r : RecordContent) (kind : Kind) (lines sample : List ℕ)
    → kind ≡ kinds.O → sample ≡ field_text d (sample_after named r kinds.O)
    → (lines ≡ lines ++ result_line_of d named r kind) × (sample ≡ field_text d (sample_after named r kind))
order_line d named r kind lines sample is reported =
    subst
    (λ (k : Kind). (lines ≡ lines ++ result_line_of d named r k) × (sample ≡ field_text d (sample_after named r k)))
    (sym is)
    (sym (append-nil lines), reported)

-- a result
pub result_added : (d : DelimiterBytes) (named : Option Repeats) (r : RecordContent) (kind : Kind)
    (lines lines' sample : List ℕ)
    → kind ≡ kinds.R → lines' ≡ lines ++ result_line_of d named r kinds.R → sample ≡ field_text d named
    → (lines' ≡ lines ++ result_line_of d named r kind) × (sample ≡ field_text d (sample_after named r kind))
result_added d named r kind lines lines' sample is line reported =
    subst
    (λ (k : Kind). (lines' ≡ lines ++ result_line_of d named r k) × (sample ≡ field_text d (sample_after named r k)))
    (sym is)
    (line, reported)

-- what is left after the next of fields that are borrowed
pub next_left : (next : Option (Borrowed Repeats)) (s s' : Borrowed Fields)
    → MatchOption next ((s.content ≡ []) × (s' ≡ s)) (λ field. (field.delimiters ≡ s.delimiters)
    × (s.content ≡ field.content ∷ s'.content) × (s'.delimiters ≡ s.delimiters))
    → s' ≡ borrowed s.delimiters (drop 1 s.content)
next_left None s s' is = is.1 ∙ ap (λ (l : Fields). borrowed s.delimiters l) (is.0 ∙ sym (ap (drop 1) is.0))
next_left (Some field) s s' is =
    ap (λ (d : DelimiterBytes). borrowed d s'.content) is.2
    ∙ ap (λ (l : Fields). borrowed s.delimiters l) (sym (ap (drop 1) is.1))

-- fields 3 to 7 as they are, and field 9
pub counted_at_once : (d : DelimiterBytes) (r : RecordContent) → r.kind ≡ kinds.R → 5 ≤ length (drop 1 r.fields)
    → more_fields d (take 5 (drop 1 r.fields))
    ++ d.field ∷ field_text d (slice_get (drop 1 (drop 5 (drop 1 r.fields))) 0)
    ≡ fields_following d r printed_fields
counted_at_once d r kind five = rw kind (by r.fields five)
  where
    by : (fields : Fields) → 5 ≤ length (drop 1 fields)
        → more_fields d (take 5 (drop 1 fields))
        ++ d.field ∷ field_text d (slice_get (drop 1 (drop 5 (drop 1 fields))) 0)
        ≡ fields_following d (record { kind = kinds.R; fields = fields }) printed_fields
    by (n ∷ a ∷ b ∷ c ∷ e ∷ f ∷ flag ∷ g ∷ more) five = sym (append-nil _) ∙ simp append_assoc refl
    by (n ∷ a ∷ b ∷ c ∷ e ∷ f ∷ flag ∷ []) five = simp append_assoc refl
    by (n ∷ a ∷ b ∷ c ∷ e ∷ f ∷ []) five = simp append_assoc refl
    by (n ∷ a ∷ b ∷ c ∷ e ∷ []) five = absurd (omega arith)
    by (n ∷ a ∷ b ∷ c ∷ []) five = absurd (omega arith)
    by (n ∷ a ∷ b ∷ []) five = absurd (omega arith)
    by (n ∷ a ∷ []) five = absurd (omega arith)
    by (n ∷ []) five = absurd (omega arith)
    by [] five = absurd (omega arith)

-- the same where the fields are taken one after another
pub reported_last : (d : DelimiterBytes) (r : RecordContent) (s s' s'' : Borrowed Fields) (mark : ℕ) (b b' b'' : List ℕ)
    → r.kind ≡ kinds.R → mark ≡ d.field → s ≡ borrowed d (drop 1 r.fields) → 5 ≤ length s.content
    → b' ≡ b ++ more_fields s.delimiters (take 5 s.content) → s' ≡ borrowed s.delimiters (drop 5 s.content)
    → s'' ≡ borrowed s'.delimiters (drop 1 s'.content)
    → b'' ≡ b' ++ mark ∷ field_text s''.delimiters (slice_get s''.content 0)
    → b'' ≡ b ++ fields_following d r printed_fields
reported_last d r s s' s'' mark b b' b'' kind marks first five fronts following second last =
    let reported = counted_at_once d r kind (rw first at five) in
    last
    ∙ rw (fronts, second, following, first, marks) (append_assoc b _ _ ∙ ap (λ (l : List ℕ). b ++ l) reported)

-- ---- the same fields, one by one

-- fields 3 to 7
abbrev pub front_fields : List ℕ
front_fields = 3 ∷ 4 ∷ 5 ∷ 6 ∷ 7 ∷ []

first_left : (fields : Fields) (n : ℕ) → slice_get (drop n fields) 0 ≡ slice_get fields n
first_left fields zero = refl
first_left [] (suc n) = refl
first_left (field ∷ fields) (suc n) = first_left fields n

fields_following-more : (d : DelimiterBytes) (r : RecordContent) (numbers : List ℕ) (n : ℕ)
    → fields_following d r (numbers ++ n ∷ []) ≡ fields_following d r numbers ++ d.field ∷ field_text d (field_at r n)
fields_following-more d r numbers n =
    flat_map-append (λ number. d.field ∷ field_text d (field_at r number)) numbers (n ∷ [])
    ∙ ap (λ (l : List ℕ). fields_following d r numbers ++ l) (append-nil _)

-- the next of them
front_next : (r : RecordContent) → r.kind ≡ kinds.R → (k : ℕ) → k < 5
    → (take (k + 1) front_fields ≡ take k front_fields ++ (k + 3) ∷ [])
    × (field_at r (k + 3) ≡ slice_get r.fields (k + 1))
front_next r kind zero less = (refl, rw kind refl)
front_next r kind (suc zero) less = (refl, rw kind refl)
front_next r kind (suc (suc zero)) less = (refl, rw kind refl)
front_next r kind (suc (suc (suc zero))) less = (refl, rw kind refl)
front_next r kind (suc (suc (suc (suc zero)))) less = (refl, rw kind refl)
front_next r kind (suc (suc (suc (suc (suc k))))) less = absurd (omega arith)

-- so many of them were added, and these fields are left
pub record Added (d : DelimiterBytes) (r : RecordContent) (count : ℕ) (left : Borrowed Fields)
    (b b' : List ℕ) : Type 0 where
  pub front : b' ≡ b ++ fields_following d r (take count front_fields)
  pub rest : left ≡ borrowed d (drop (count + 1) r.fields)

-- one more field of these was added
added_after : (d : DelimiterBytes) (r : RecordContent) (numbers : List ℕ) (n at : ℕ) (left : Borrowed Fields) (mark : ℕ)
    (b b' b'' : List ℕ) → field_at r n ≡ slice_get r.fields at → mark ≡ d.field → left ≡ borrowed d (drop at r.fields)
    → b' ≡ b ++ fields_following d r numbers
    → b'' ≡ b' ++ mark ∷ field_text left.delimiters (slice_get left.content 0)
    → b'' ≡ b ++ fields_following d r (numbers ++ n ∷ [])
added_after d r numbers n at left mark b b' b'' here marks rest front last =
    last
    ∙ rw (front, marks, rest) (append_assoc b (fields_following d r numbers) _
    ∙ ap (λ (o : Option Repeats). b ++ (fields_following d r numbers ++ d.field ∷ field_text d o))
    (first_left r.fields at ∙ sym here)
    ∙ ap (λ (l : List ℕ). b ++ l) (sym (fields_following-more d r numbers n)))

pub added_next : (d : DelimiterBytes) (r : RecordContent) (k : ℕ) (left left' : Borrowed Fields) (mark : ℕ)
    (b b' b'' : List ℕ) → r.kind ≡ kinds.R → mark ≡ d.field → k < 5 → Added d r k left b b'
    → b'' ≡ b' ++ mark ∷ field_text left.delimiters (slice_get left.content 0)
    → left' ≡ borrowed left.delimiters (drop 1 left.content)
    → Added d r (k + 1) left' b b''
added_next d r k left left' mark b b' b'' kind marks less so_far last next =
    let one = front_next r kind k less in
    record {
      front = added_after d r (take k front_fields) (k + 3) (k + 1) left mark b b' b'' one.1 marks so_far.rest
          so_far.front last
          ∙ ap (λ (l : List ℕ). b ++ fields_following d r l) (sym one.0);
      rest = next ∙ rw so_far.rest (ap (λ (l : Fields). borrowed d l) (drop-drop 1 (k + 1) r.fields));
    }

pub added_last : (d : DelimiterBytes) (r : RecordContent) (k : ℕ) (left left' : Borrowed Fields) (mark : ℕ)
    (b b' b'' : List ℕ) → r.kind ≡ kinds.R → mark ≡ d.field → k ≡ 5 → Added d r k left b b'
    → left' ≡ borrowed left.delimiters (drop 1 left.content)
    → b'' ≡ b' ++ mark ∷ field_text left'.delimiters (slice_get left'.content 0)
    → b'' ≡ b ++ fields_following d r printed_fields
added_last d r k left left' mark b b' b'' kind marks all so_far next last =
    added_after d r front_fields 9 7 left' mark b b' b'' (rw kind refl) marks
    (next ∙ rw (so_far.rest, all) (ap (λ (l : Fields). borrowed d l) (drop-drop 1 6 r.fields))) (rw all at so_far.front)
    last
