-- Every stream is split or rejected, and what follows a stream only adds messages.
use Rattle.std.proofs.Common.{◌≡◌, ◌≢◌, ℕ, ◌≤◌, ◌⊎◌, inl, inr, List, [], ◌∷◌, ◌++◌, length, Option, Some, None}
use Rattle.std.proofs.Common.{option_map, refl, sym, ◌∙◌, ap, subst, append_assoc, arith, length-append}
use Rattle.std.proofs.lemmas.Bool.Decides.{eqb_tells}
use Rattle.std.proofs.lemmas.List.{append-nil}
use Rattle.std.proofs.lemmas.Bool.{cases_lt}
use Rattle.std.specs.List.{AllByRecursion, AllZip}
use Rattle.std.specs.Prelude.{if◌then◌else◌}
use Rattle.std.specs.Option.{option_or, option_to_list}
use Rattle.lis_record_values.proofs.DelimiterFaults.{IsDelimiters-delimiters_of}
use Rattle.lis_record_values.proofs.FirstFaults.{option_map-none, option_or-none}
use Rattle.lis_record_values.specs.declared.kinds.Kind.{Kind}
use Rattle.lis_record_values.specs.declared.kinds.Kind.TheVariants as kinds
use Rattle.lis_record_values.specs.Delimiters.{DelimiterBytes, IsDelimiters, delimiter_fault, delimiters_of}
use Rattle.lis_record_values.specs.Kinds.{kind_of}
use Rattle.lis_record_values.specs.Shape.{IsRecordShape, RecordContent}
use Rattle.lis_record.proofs.FaultLaws.{IsRecord-fields_of, IsRecord-header}
use Rattle.lis_record.proofs.Shapes.{IsRecord-shape}
use Rattle.lis_record_values.specs.declared.faults.DelimiterPartFault.TheVariants.{Fault, Trailing}
use Rattle.lis_record_values.specs.declared.faults.RecordFault.TheVariants as record_faults
use Rattle.lis_record_write.specs.declared.writing.TheConstants.{RECORD_LIMIT}
use Rattle.lis_record.specs.Faults.{delimiter_part_fault, header_fault, is_header_kind, is_other_kind, record_fault}
use Rattle.lis_record.specs.Faults.{record_text_fault}
use Rattle.lis_record_values.specs.Text.{trailing_byte}
use Rattle.lis_record_read.specs.FrontReading.{fields_of}
use Rattle.lis_record_values.specs.Relation.{IsRecord}
use Rattle.lis_tree.proofs.Trees.{tree_of}
use Rattle.lis_record_values.specs.declared.faults.MessageFault.{MessageFault}
use Rattle.lis_record_values.specs.declared.faults.Reason.TheVariants as reasons
use Rattle.lis_tree.specs.Begun.{Begun, level_of}
use Rattle.lis_tree.specs.Level.{misplaced}
use Rattle.lis_tree.specs.Tree.{MessageTree}
use Rattle.lis_message.specs.Feeding.{next_place}
use Rattle.lis_message.specs.Stream.{AreBegun, AreLeft, IsSplit, IsReadFrom, IsRefused, kind_refusal, letter_refusal}
use Rattle.lis_message.specs.Stream.{refusal}
use Rattle.lis_message.specs.Taking.{ComesNext, Completes, header, inner, left_after, records_of}
use Rattle.lis_record.specs.Borrowed.{Borrowed, borrowed}
use Rattle.lis_message.proofs.Splits.{split_hold, split_start, split_taken}
use Rattle.lis_message.proofs.Stopping.{refused_line, refused_long}

-- ---- a text that nothing rejects can be taken

record CanTake (left : Option Begun) (text : List ℕ) : Type 0 where
  entry : Borrowed RecordContent
  comes : ComesNext left text entry

pub header_open : (letter : ℕ) (part : List ℕ) → header_fault (letter ∷ part) ≡ None
    → (delimiter_part_fault part ≡ None)
    × (record_text_fault (letter ∷ part) ≡ None)
unfolding header_fault
header_open letter part none =
    let rest =
    option_or-none (if is_header_kind (kind_of letter) then None else Some (record_faults.UnknownKind letter))
    (option_or (option_map record_faults.DelimiterPart (delimiter_part_fault part)) (record_text_fault (letter ∷ part)))
    none in
    let both = option_or-none (option_map record_faults.DelimiterPart (delimiter_part_fault part))
    (record_text_fault (letter ∷ part)) rest.1 in
    (option_map-none record_faults.DelimiterPart (delimiter_part_fault part) both.0, both.1)

-- outside a message it is a header
header_taken : (letter : ℕ) (part : List ℕ) → kind_of letter ≡ Some kinds.H → delimiter_part_fault part ≡ None
    → record_text_fault (letter ∷ part) ≡ None → CanTake None (letter ∷ part)
unfolding delimiter_part_fault
header_taken letter [] is none texts = cc
header_taken letter (f ∷ []) is none texts = cc
header_taken letter (f ∷ r ∷ []) is none texts = cc
header_taken letter (f ∷ r ∷ c ∷ []) is none texts = cc
header_taken letter (f ∷ r ∷ c ∷ e ∷ bytes) is none texts =
    let parts = option_or-none (option_map Fault (delimiter_fault (f ∷ r ∷ c ∷ e ∷ [])))
    (option_map Trailing (trailing_byte f bytes)) none in
    let marks : delimiter_fault (f ∷ r ∷ c ∷ e ∷ []) ≡ None =
    option_map-none Fault (delimiter_fault (f ∷ r ∷ c ∷ e ∷ [])) parts.0 in
    let trailing : trailing_byte f bytes ≡ None = option_map-none Trailing (trailing_byte f bytes) parts.1 in
    let d = delimiters_of f r c e in
    let content : RecordContent = record { kind = kinds.H; fields = fields_of d bytes } in
    record {
      entry = borrowed d content;
      comes = header refl (IsDelimiters-delimiters_of f r c e marks)
          (IsRecord-header letter f r c e bytes is marks trailing texts) refl;
    }

pub record OutsideKind (k : Option Kind) (text : List ℕ) : Type 0 where
  pub is : k ≡ Some kinds.H
  pub none : header_fault text ≡ None

pub outside_kind : (letter : ℕ) (k : Option Kind) (text : List ℕ) → letter_refusal None letter k text ≡ None
    → OutsideKind k text
unfolding kind_refusal
outside_kind letter None text e = cc
outside_kind letter (Some kinds.H) text e = record
    { is = refl; none = option_map-none reasons.BadRecord (header_fault text) e }
outside_kind letter (Some kinds.P) text e = cc
outside_kind letter kind text e = cc

-- inside one it is another record
pub record InsideKind (b : Begun) (k : Option Kind) (text : List ℕ) : Type 0 where
  kind : Kind
  is : k ≡ Some kind
  other : kind ≢ kinds.H
  pub fine : record_fault b.delimiters text ≡ None
  placed : misplaced (level_of (Some b)) kind ≡ None

inside : (b : Begun) (kind : Kind) (text : List ℕ) → kind ≢ kinds.H
    → option_or (option_map reasons.BadRecord (record_fault b.delimiters text)) (misplaced (level_of (Some b)) kind)
    ≡ None → InsideKind b (Some kind) text
inside b kind text other e =
    let both = option_or-none (option_map reasons.BadRecord (record_fault b.delimiters text))
    (misplaced (level_of (Some b)) kind) e in
    record {
      kind = kind;
      is = refl;
      other = other;
      fine =
          option_map-none reasons.BadRecord (record_fault b.delimiters text) both.0;
      placed = both.1;
    }

pub inside_kind : (b : Begun) (letter : ℕ) (k : Option Kind) (text : List ℕ)
    → letter_refusal (Some b) letter k text ≡ None → InsideKind b k text
unfolding kind_refusal
inside_kind b letter None text e = cc
inside_kind b letter (Some kinds.H) text e = cc
inside_kind b letter (Some kinds.P) text e = inside b kinds.P text (λ x. cc) e
inside_kind b letter (Some kinds.O) text e = inside b kinds.O text (λ x. cc) e
inside_kind b letter (Some kinds.R) text e = inside b kinds.R text (λ x. cc) e
inside_kind b letter (Some kinds.C) text e = inside b kinds.C text (λ x. cc) e
inside_kind b letter (Some kinds.Q) text e = inside b kinds.Q text (λ x. cc) e
inside_kind b letter (Some kinds.M) text e = inside b kinds.M text (λ x. cc) e
inside_kind b letter (Some kinds.S) text e = inside b kinds.S text (λ x. cc) e
inside_kind b letter (Some kinds.L) text e = inside b kinds.L text (λ x. cc) e

record_found : (d : DelimiterBytes) → IsDelimiters d → (letter : ℕ) (bytes : List ℕ) (kind : Kind)
    → kind_of letter ≡ Some kind → kind ≢ kinds.H → record_fault d (letter ∷ bytes) ≡ None
    → IsRecord d (letter ∷ bytes) (record { kind = kind; fields = fields_of d bytes })
unfolding record_fault
record_found d good letter bytes kind is other none =
    let rest =
    option_or-none (if is_other_kind (kind_of letter) then None else Some (record_faults.UnknownKind letter))
    (option_or (option_map record_faults.UnknownKind (trailing_byte d.field bytes))
    (record_text_fault (letter ∷ bytes)))
    none in
    let both = option_or-none (option_map record_faults.UnknownKind (trailing_byte d.field bytes))
    (record_text_fault (letter ∷ bytes)) rest.1 in
    IsRecord-fields_of d good letter bytes kind is other
    (option_map-none record_faults.UnknownKind (trailing_byte d.field bytes) both.0) both.1

shapes : (d : DelimiterBytes) → IsDelimiters d → (texts : List (List ℕ)) (rs : List RecordContent)
    → AllZip (IsRecord d) texts rs → AllByRecursion IsRecordShape rs
shapes d good [] [] each = tt
shapes d good [] (r ∷ rs) each = absurd each
shapes d good (text ∷ texts) [] each = tt
shapes d good (text ∷ texts) (r ∷ rs) each = (IsRecord-shape d good text r each.0, shapes d good texts rs each.1)

pub is_closing : (k : Kind) → (k ≡ kinds.L) ⊎ (k ≢ kinds.L)
is_closing kinds.L = inl refl
is_closing k = inr (λ e. cc)

-- what a record completes
pub completing : (left : Option Begun) (texts : List (List ℕ)) → AreLeft texts left
    → (text : List ℕ) (entry : Borrowed RecordContent) → ComesNext left text entry
    → (message : Option MessageTree) × Completes left entry message
completing left texts are text entry (header l good is kind) =
    (None, λ e. let clash : kinds.H ≡ kinds.L = sym kind ∙ e in cc)
completing left texts are text entry (inner b l d is placed) =
    let begun : AreBegun texts b = subst (AreLeft texts) l are in
    let here : IsRecord b.delimiters text entry.content =
    subst (λ (x : DelimiterBytes). IsRecord x text entry.content) d is in
    elim (is_closing entry.content.kind) [
      | inl last ↦
          let whole =
          tree_of b.delimiters begun.delimiters b.records entry.content begun.some begun.placed begun.unclosed last
          (shapes b.delimiters begun.delimiters texts b.records begun.each)
          (IsRecord-shape b.delimiters begun.delimiters text entry.content here) in (
            Some whole.0,
            (
              last,
              whole.1.tree,
              whole.1.delimiters ∙ sym d,
              whole.1.records_are
                  ∙ ap (λ (x : Option Begun). records_of x ++ entry.content ∷ []) (sym l),
            ),
          )
      | inr other ↦ (None, other)
    ]

can_take : (left : Option Begun) (texts : List (List ℕ)) → AreLeft texts left → (text : List ℕ)
    → refusal left text ≡ None → CanTake left text
unfolding refusal
can_take None texts are [] none = cc
can_take None texts are (letter ∷ bytes) none =
    let outside = outside_kind letter (kind_of letter) (letter ∷ bytes) none in
    let open' = header_open letter bytes outside.none in
    header_taken letter bytes outside.is open'.0 open'.1
can_take (Some b) texts are [] none = cc
can_take (Some b) texts are (letter ∷ bytes) none =
    let found = inside_kind b letter (kind_of letter) (letter ∷ bytes) none in
    record {
      entry = borrowed b.delimiters (record { kind = found.kind; fields = fields_of b.delimiters bytes });
      comes = inner b refl refl (record_found b.delimiters are.delimiters letter bytes found.kind found.is found.other
          found.fine) found.placed;
    }

-- ---- byte by byte

cases : {X : Type 0} (o : Option X) → (o ≡ None) ⊎ ((x : X) × (o ≡ Some x))
cases None = inl refl
cases (Some x) = inr (x, refl)

fewer_read : (stream : List ℕ) (messages xs : List MessageTree) → IsReadFrom stream (messages ++ xs)
    → IsReadFrom stream messages
fewer_read stream messages xs (more, inl split) = (
  xs ++ more,
  inl (
    split.0,
    split.1,
    subst (λ (ms : List MessageTree). IsSplit stream ms split.0 split.1) (append_assoc messages xs more)
        split.2,
  ),
)
fewer_read stream messages xs (more, inr stop) = (
  xs ++ more,
  inr (stop.0, subst (λ (ms : List MessageTree). IsRefused stream ms stop.0) (append_assoc messages xs more) stop.1),
)

stopped : (stream : List ℕ) (messages : List MessageTree) (fault : MessageFault) → IsRefused stream messages fault
    → IsReadFrom stream messages
stopped stream messages fault is =
    ([], inr (fault, subst (λ (ms : List MessageTree). IsRefused stream ms fault) (sym (append-nil messages)) is))

moved : (front : List ℕ) (b : ℕ) (more : List ℕ) (messages : List MessageTree)
    → IsReadFrom ((front ++ b ∷ []) ++ more) messages → IsReadFrom (front ++ b ∷ more) messages
moved front b more messages = subst (λ (s : List ℕ). IsReadFrom s messages) (append_assoc front (b ∷ []) more)

short_with : (held : List ℕ) → length held ≤ RECORD_LIMIT → length (held ++ []) ≤ RECORD_LIMIT
short_with held short = omega (arith, short, length-append held [])

-- what follows a stream adds messages, until a record is rejected
pub goes_on : (more front : List ℕ) (messages : List MessageTree) (left : Option Begun) (held : List ℕ)
    → IsSplit front messages left held → IsReadFrom (front ++ more) messages
goes_on [] front messages left held c = (
  [],
  inl (
    left,
    held,
    subst (λ (s : List ℕ). IsSplit s (messages ++ []) left held) (sym (append-nil front))
        (subst (λ (ms : List MessageTree). IsSplit front ms left held) (sym (append-nil messages)) c),
  ),
)
goes_on (b ∷ more) front messages left held c =
    elim (eqb_tells b 13) [
      | inl same ↦ elim (cases (refusal left held)) [
        | inl none ↦
            let can = can_take left c.texts c.begun held none in
            let whole = completing left c.texts c.begun held can.entry can.comes in
            let next = split_taken front messages left held can.entry whole.0 c can.comes whole.1 in
            subst (λ (x : ℕ). IsReadFrom (front ++ x ∷ more) messages) (sym same.1)
            (moved front 13 more messages
            (fewer_read ((front ++ 13 ∷ []) ++ more) messages (option_to_list whole.0)
            (goes_on more (front ++ 13 ∷ []) (messages ++ option_to_list whole.0)
            (left_after left can.entry can.entry.content.kind) [] next)))
        | inr why ↦
            let fault : MessageFault = record { place = next_place left; reason = why.0 } in
            subst (λ (x : ℕ). IsReadFrom (front ++ x ∷ more) messages) (sym same.1)
            (stopped (front ++ 13 ∷ more) messages fault
            (refused_line front messages left held [] more fault c tt (short_with held c.short)
            (ap (refusal left) (append-nil held) ∙ why.1) refl))
      ]
      | inr other ↦ elim (cases_lt RECORD_LIMIT (length (held ++ b ∷ []))) [
        | inr short ↦
            moved front b more messages (goes_on more (front ++ b ∷ []) messages left (held ++ b ∷ [])
            (split_hold front messages left held (b ∷ []) c (other.1, tt) short))
        | inl long ↦
            let fault : MessageFault = record { place = next_place left; reason = reasons.RecordTooLong } in
            stopped (front ++ b ∷ more) messages fault (refused_long front messages left held (b ∷ []) more fault c
            (other.1, tt) (omega (arith, long)) refl refl)
      ]
    ]

-- every stream is split or rejected
pub every_stream : (stream : List ℕ) → IsReadFrom stream []
every_stream stream = goes_on stream [] [] None [] split_start
