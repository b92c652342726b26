-- What a record that comes next is to a reader, by what it keeps of the open message.
use Rattle.std.proofs.Common.{◌≡◌, ◌≢◌, ◌<◌, ℕ, ◌+◌, true, false, List, [], ◌∷◌, ◌++◌, length, min, Option, Some, None}
use Rattle.std.proofs.Common.{◌⊎◌, inl, inr, IfOk, Ok, Err, refl, sym, ◌∙◌, ap, subst, arith, length-append, ◌==◌}
use Rattle.std.proofs.Common.{is_some}
use Rattle.std.specs.declared.result.Result.{Result}
use Rattle.std.proofs.lemmas.Bool.{eqb-true}
use Rattle.lis_record_values.specs.declared.kinds.Kind.{Kind}
use Rattle.lis_record_values.specs.declared.kinds.Kind.TheVariants as kinds
use Rattle.lis_record_values.specs.Delimiters.{DelimiterBytes}
use Rattle.lis_record_values.specs.Shape.{RecordContent}
use Rattle.lis_message.specs.Feeding.{answer_at_end}
use Rattle.lis_message.specs.Kept.{Opened, RecordsState, opened_of, opened_with}
use Rattle.lis_message.specs.declared.records.RecordFound.{RecordFound}
use Rattle.lis_message.specs.declared.records.RecordFound.TheVariants as found
use Rattle.lis_message.specs.Records.{IsRecordRefusedFor, IsStopped, Reads, ReadsRecord}
use Rattle.lis_message.specs.Stream.{LacksReturn, refusal}
use Rattle.lis_message.specs.Taking.{ComesNext, header, inner, left_after}
use Rattle.lis_message.specs.inside.Taking.{front_refusal}
use Rattle.lis_message.proofs.Splits.{left_after-more}
use Rattle.lis_message.proofs.TakingLaws.{inner_refused, place_refused}
use Rattle.lis_record_values.specs.declared.faults.RecordFault.{RecordFault}
use Rattle.lis_record.specs.Faults.{record_fault}
use Rattle.lis_record.specs.Borrowed.{Borrowed, record_in}
use Rattle.lis_record_values.specs.Relation.{IsRecord}
use Rattle.lis_tree.proofs.Levels.{level_more}
use Rattle.lis_record_values.specs.declared.faults.Reason.{Reason}
use Rattle.lis_record_values.specs.declared.faults.Reason.TheVariants as reasons
use Rattle.lis_tree.specs.declared.position.Position.{Position}
use Rattle.lis_tree.specs.declared.position.Position.TheVariants as standings
use Rattle.lis_tree.specs.Begun.{Begun, level_of}
use Rattle.lis_tree.specs.Level.{Level, closed, misplaced, next_level}
use Rattle.lis_bytes.specs.Capped.{capped}
use Rattle.lis_tree.specs.Position.{position_level}
use Rattle.std.proofs.lemmas.List.{nil_from_length}

-- ---- in an open message

module _ (o : Opened) (begun : Begun) (is : o ≡ opened_with begun) (text : List ℕ) where
  pub inner_fault : (e : RecordFault) → front_refusal true text ≡ None → record_fault o.delimiters text ≡ Some e
      → refusal (Some begun) text ≡ Some (reasons.BadRecord e)
  inner_fault e front fault =
      inner_refused begun text e front (subst (λ (x : Opened). record_fault x.delimiters text ≡ Some e) is fault)

  place_here : (kind : Kind) (entry : Borrowed RecordContent) (why : Option Reason) → kind ≡ entry.content.kind
      → why ≡ misplaced o.level kind → misplaced (level_of (Some begun)) entry.content.kind ≡ why
  place_here kind entry why k placed =
      ap (misplaced (level_of (Some begun))) (sym k) ∙ ap (λ (x : Opened). misplaced x.level kind) (sym is) ∙ sym placed

  pub inner_comes : (entry : Borrowed RecordContent) (kind : Kind) → entry.delimiters ≡ o.delimiters
      → IsRecord o.delimiters text entry.content → kind ≡ entry.content.kind → None ≡ misplaced o.level kind
      → ComesNext (Some begun) text entry
  inner_comes entry kind marks rec k placed =
      inner begun refl (marks ∙ ap (λ (x : Opened). x.delimiters) is)
      (subst (λ (x : DelimiterBytes). IsRecord x text entry.content) (sym marks) rec)
      (place_here kind entry None k placed)

  pub inner_misplaced : (entry : Borrowed RecordContent) (kind : Kind) (reason : Reason)
      → IsRecord o.delimiters text entry.content → entry.content.kind ≢ kinds.H → kind ≡ entry.content.kind
      → Some reason ≡ misplaced o.level kind → refusal (Some begun) text ≡ Some reason
  inner_misplaced entry kind reason rec other k placed =
      place_refused begun text entry.content reason
      (subst (λ (x : Opened). IsRecord x.delimiters text entry.content) is rec) other
      (place_here kind entry (Some reason) k placed)

-- ---- whether a message is open

pub none_open : (left : Option Begun) → None ≡ opened_of left → left ≡ None
none_open None e = refl
none_open (Some begun) e = absurd cc

opened_some : (left : Option Begun) (o : Opened) → Some o ≡ opened_of left → (begun : Begun) × (left ≡ Some begun)
    × (o ≡ opened_with begun)
opened_some None o e = absurd cc
opened_some (Some begun) o e = (begun, refl, cc)

pub open_comes : (found : Result (Borrowed RecordContent) Reason) (now : Option Opened) (o : Opened) (text : List ℕ)
    → now ≡ Some o
    → IfOk found (λ entry. (begun : Begun) → o ≡ opened_with begun → ComesNext (Some begun) text entry)
    → IfOk found (λ entry. (left : Option Begun) → now ≡ opened_of left → ComesNext left text entry)
open_comes (Ok entry) now o text is comes = λ left e.
    let found = opened_some left o (sym is ∙ e) in
    subst (λ (x : Option Begun). ComesNext x text entry) (sym found.1) (comes found.0 found.2)
open_comes (Err reason) now o text is comes = tt

-- ---- after a record

position_open : (s : Position) → position_level s ≢ closed
position_open standings.InHeader e = cc
position_open position e = cc

capped_more : (n : ℕ) → min (capped n + 1) 18446744073709551615 ≡ capped (n + 1)
capped_more n = omega arith

-- what comes next in it has its delimiters
pub marks_kept : (left : Option Begun) (text : List ℕ) (entry : Borrowed RecordContent) (o : Opened)
    → Some o ≡ opened_of left → ComesNext left text entry → entry.delimiters ≡ o.delimiters
marks_kept left text entry o e (header none good read kind) =
    let no : Some o ≡ None = e ∙ ap opened_of none in
    cc
marks_kept left text entry o e (inner begun is marks read fits) =
    let same : Some o ≡ Some (opened_with begun) = e ∙ ap opened_of is in
    let at : o ≡ opened_with begun = cc in
    marks ∙ ap (λ (x : Opened). x.delimiters) (sym at)

-- another record leaves the message open, one longer
pub inner_after : (left : Option Begun) (entry : Borrowed RecordContent) (d : DelimiterBytes) (o : Opened)
    (s : Position) (kind : Kind) (count : ℕ) → Some o ≡ opened_of left → entry.delimiters ≡ d
    → entry.content.kind ≡ kind → position_level s ≡ next_level o.level kind
    → count ≡ min (o.count + 1) 18446744073709551615
    → Some (record { delimiters = d; level = position_level s; count = count }) ≡ opened_of (left_after left entry kind)
inner_after left entry d o s kind count e marks k goes counted =
    let found = opened_some left o e in
    let begun = found.0 in
    let other : kind ≢ kinds.L = λ l. position_open s (goes ∙ ap (next_level o.level) l) in
    let longer : List RecordContent = begun.records ++ entry.content ∷ [] in
    let level : position_level s ≡ level_of (Some (record { delimiters = entry.delimiters; records = longer })) =
    goes ∙ ap (λ (x : Opened). next_level x.level kind) found.2 ∙ ap (next_level (level_of (Some begun))) (sym k)
    ∙ sym (level_more begun.records entry.content) in
    let counts : count ≡ capped (length longer) =
    counted ∙ ap (λ (x : Opened). min (x.count + 1) 18446744073709551615) found.2
    ∙ capped_more (length begun.records) ∙ ap capped (sym (length-append begun.records (entry.content ∷ []))) in
    ap (λ (x : DelimiterBytes). Some (record { delimiters = x; level = position_level s; count = count })) (sym marks)
    ∙ ap (λ (x : Level). Some (record { delimiters = entry.delimiters; level = x; count = count })) level
    ∙ ap (λ (x : ℕ). Some
    (record {
      delimiters = entry.delimiters;
      level = level_of
          (Some (record { delimiters = entry.delimiters; records = longer }));
      count = x;
    })) counts
    ∙ ap opened_of (sym (left_after-more (Some begun) entry kind other))
    ∙ ap (λ (x : Option Begun). opened_of (left_after x entry kind)) (sym found.1)

-- ---- a line that is rejected

pub line_stopped : (left : Option Begun) (held text following bytes : List ℕ) (reason : Reason) → LacksReturn text
    → bytes ≡ text ++ 13 ∷ following → IsRecordRefusedFor left (held ++ text) reason → IsStopped left held bytes reason
line_stopped left held text following bytes reason lacks whole (inl long) =
    inr (record { text = text; more = 13 ∷ following; whole = whole; lacks = lacks; refused = inr long })
line_stopped left held text following bytes reason lacks whole (inr why) =
    inr (record {
      text = text;
      more = 13 ∷ following;
      whole = whole;
      lacks = lacks;
      refused = inl
          (record { rest = following; ended_by = refl; short = why.1; why = why.0 });
    })

pub nothing_held : (held : List ℕ) → true ≡ (length held == 0) → held ≡ []
nothing_held held empty = nil_from_length held (eqb-true (length held) 0 (sym empty))

-- the stream may end here
pub ends_fine : (left : Option Begun) (held : List ℕ) → is_some (opened_of left) ≡ false → held ≡ []
    → Ok tt ≡ answer_at_end left held
ends_fine None held no_message none = ap (answer_at_end None) (sym none)
ends_fine (Some begun) held no_message none = cc

-- where nothing was held
pub whole_stopped : (left : Option Begun) (held text following bytes : List ℕ) (reason : Reason) → held ≡ []
    → LacksReturn text → bytes ≡ text ++ 13 ∷ following → IsRecordRefusedFor left text reason
    → IsStopped left held bytes reason
whole_stopped left held text following bytes reason none lacks whole why =
    line_stopped left held text following bytes reason lacks whole
    (subst (λ (h : List ℕ). IsRecordRefusedFor left (h ++ text) reason) (sym none) why)

-- where bytes were held
pub held_stopped : (left : Option Begun) (held text following bytes : List ℕ) (reason : Reason)
    → false ≡ (length held == 0) → LacksReturn text → bytes ≡ text ++ 13 ∷ following
    → (reason ≡ reasons.OutOfMemory) ⊎ IsRecordRefusedFor left (held ++ text) reason
    → IsStopped left held bytes reason
held_stopped left held text following bytes reason some lacks whole (inl memory) =
    inl (memory, λ none. absurd (cc (rw none at some)))
held_stopped left held text following bytes reason some lacks whole (inr why) =
    line_stopped left held text following bytes reason lacks whole why

pub following_shorter : (bytes text following : List ℕ) → bytes ≡ text ++ 13 ∷ following → length following < length
    bytes
following_shorter bytes text following whole = rw whole (simp length-append (omega arith))

-- a record that was found in a text is the one that is known to be it
pub known_reported : (entry : Borrowed RecordContent) (d : DelimiterBytes) (k : Kind) (text held : List ℕ)
    → entry ≡ record_in entry.delimiters entry.content.kind text → d ≡ entry.delimiters → k ≡ entry.content.kind
    → text ≡ held
    → Some (record_in d k held) ≡ Some entry
known_reported entry d k text held is marks kind same =
    ap (λ (x : DelimiterBytes). Some (record_in x k held)) marks
    ∙ ap (λ (x : Kind). Some (record_in entry.delimiters x held)) kind
    ∙ ap (λ (x : List ℕ). Some (record_in entry.delimiters entry.content.kind x)) (sym same) ∙ ap Some (sym is)

-- ---- where the last record was released

abbrev record_same : (before other after : RecordsState) (left : Option Begun) (bytes following : List ℕ)
    (entry : Borrowed RecordContent) → before.held ≡ other.held → ReadsRecord before after left bytes following entry
    → ReadsRecord other after left bytes following entry
record_same before other after left bytes following entry same r = record {
  text = r.text;
  whole = r.whole;
  lacks = r.lacks;
  comes = subst (λ (h : List ℕ). ComesNext left (h ++ r.text) entry) same r.comes;
  left_then = r.left_then;
  empty = r.empty;
}

-- of what the reader keeps before only the bytes that it holds count
pub reads_same : (before other after : RecordsState) (left : Option Begun) (bytes following : List ℕ) (f : RecordFound)
    → before.held ≡ other.held → before.opened ≡ other.opened → Reads before after left bytes following f
    → Reads other after left bytes following f
reads_same before other after left bytes following found.Nothing same open' r = record {
  all = r.all;
  lacks = r.lacks;
  held = r.held ∙ ap (λ h. h ++ bytes) same;
  short = r.short;
  left_then = r.left_then;
  uncut = r.uncut;
}
reads_same before other after left bytes following (found.Record entry) same open' r =
    (r.0, record_same before other after left bytes following entry same r.1)
reads_same before other after left bytes following found.Held same open' r = (
  r.0,
  r.1,
  record_same before other after left bytes following r.0 same r.2,
  r.3 ∙ ap (λ (h : List ℕ). h ++ r.2.text) same,
)
reads_same before other after left bytes following (found.Refused fault) same open' r = record {
  none_read = r.none_read;
  place = r.place;
  why = subst (λ (h : List ℕ). IsStopped left h bytes fault.reason) same r.why;
  kept = r.kept;
  empty = r.empty;
  opened = r.opened ∙ open';
  uncut = r.uncut;
}
