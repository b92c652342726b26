-- What a reader of records reads is the stream's split, and what it rejects is what the stream is rejected for.
use Rattle.std.proofs.Common.{◌≡◌, ℕ, ◌≤◌, ◌<◌, inl, inr, ⊎_elim, List, [], ◌∷◌, ◌++◌}
use Rattle.std.proofs.Common.{length, Option, Some, sym, ◌∙◌, ap, subst, append_assoc, arith, length-append}
use Rattle.std.specs.Option.{option_to_list}
use Rattle.lis_record_values.specs.Shape.{RecordContent}
use Rattle.lis_message.specs.declared.records.RecordFound.TheVariants as found
use Rattle.lis_message.specs.Feeding.{StopsReading, next_place}
use Rattle.lis_message.specs.inside.Feeding.{LeadsBefore, StopsIn}
use Rattle.lis_message.specs.Kept.{RecordsState}
use Rattle.lis_message.specs.Records.{CantCome, IsReadUpTo, IsStopped, Reads, ReadsOn, ReadsRecord, Refuses}
use Rattle.lis_message.specs.inside.Records.{Adds, unended}
use Rattle.lis_message.specs.Stream.{IsSplit, IsRefused, IsRefusedText}
use Rattle.lis_message.specs.Taking.{ComesNext, Completes, header, inner, left_after}
use Rattle.lis_message.proofs.Splits.{split_hold, split_taken}
use Rattle.lis_message.proofs.EveryStream.{completing}
use Rattle.lis_message.proofs.Stopping.{refused_line, refused_long, starved}
use Rattle.lis_record_write.specs.declared.writing.TheConstants.{RECORD_LIMIT}
use Rattle.lis_record.specs.Borrowed.{Borrowed}
use Rattle.lis_record_values.specs.declared.faults.MessageFault.{MessageFault}
use Rattle.lis_record_values.specs.declared.faults.Reason.TheVariants as reasons
use Rattle.lis_tree.specs.Begun.{Begun}
use Rattle.lis_tree.specs.Tree.{MessageTree}

comes_short : (left : Option Begun) (text : List ℕ) (entry : Borrowed RecordContent) → ComesNext left text entry
    → length text ≤ RECORD_LIMIT
comes_short left text entry (header l good is kind) = is.short
comes_short left text entry (inner b l d is placed) = is.short

-- a record is read
pub split_read : (before after : RecordsState) (stream : List ℕ) (messages : List MessageTree) (left : Option Begun)
    (bytes following : List ℕ) (entry : Borrowed RecordContent) (message : Option MessageTree)
    → IsSplit stream messages left before.held → (r : ReadsRecord before after left bytes following entry)
    → Completes left entry message
    → IsSplit (stream ++ (r.text ++ 13 ∷ [])) (messages ++ option_to_list message)
    (left_after left entry entry.content.kind) after.held
split_read before after stream messages left bytes following entry message c r completes =
    let longer =
    split_hold stream messages left before.held r.text c r.lacks
    (comes_short left (before.held ++ r.text) entry r.comes) in
    let next =
    split_taken (stream ++ r.text) messages left (before.held ++ r.text) entry message longer r.comes completes in
    subst (λ h. IsSplit (stream ++ (r.text ++ 13 ∷ [])) (messages ++ option_to_list message)
    (left_after left entry entry.content.kind) h) (sym r.empty)
    (subst (λ s. IsSplit s (messages ++ option_to_list message) (left_after left entry entry.content.kind) [])
    (append_assoc stream r.text (13 ∷ [])) next)

-- bytes are held
pub split_held : (before after : RecordsState) (stream : List ℕ) (messages : List MessageTree) (left : Option Begun)
    (bytes following : List ℕ)
    → IsSplit stream messages left before.held → ReadsOn before after left bytes following
    → IsSplit (stream ++ bytes) messages left after.held
split_held before after stream messages left bytes following c r =
    subst (λ h. IsSplit (stream ++ bytes) messages left h) (sym r.held)
    (split_hold stream messages left before.held bytes c r.lacks (subst (λ h. length h ≤ RECORD_LIMIT) r.held r.short))

refused_by : (stream : List ℕ) (messages : List MessageTree) (left : Option Begun) (held bytes : List ℕ)
    (fault : MessageFault) → IsSplit stream messages left held → fault.place ≡ next_place left
    → CantCome left held bytes fault.reason → IsRefused (stream ++ bytes) messages fault
refused_by stream messages left held bytes fault c place cant =
    subst (λ l. IsRefused (stream ++ l) messages fault) (sym cant.whole)
    (⊎_elim (λ (is : IsRefusedText left (held ++ cant.text) cant.more fault.reason).
    subst (λ m. IsRefused (stream ++ (cant.text ++ m)) messages fault) (sym is.ended_by)
    (refused_line stream messages left held cant.text is.rest fault c cant.lacks is.short is.why place))
    (λ (long : (fault.reason ≡ reasons.RecordTooLong) × (RECORD_LIMIT < length (held ++ cant.text))).
    refused_long stream messages left held cant.text cant.more fault c cant.lacks long.1 long.0 place)
    cant.refused)

-- a record is rejected, or memory runs out
pub split_stops : (stream : List ℕ) (messages : List MessageTree) (left : Option Begun) (held bytes : List ℕ)
    (fault : MessageFault) → IsSplit stream messages left held → fault.place ≡ next_place left
    → IsStopped left held bytes fault.reason → StopsReading (stream ++ bytes) messages fault
split_stops stream messages left held bytes fault c place (inl memory) =
    inl (starved stream messages left held bytes fault c place memory.0)
split_stops stream messages left held bytes fault c place (inr cant) =
    inr (refused_by stream messages left held bytes fault c place cant)

-- ---- the reader of messages

longer : (text following bytes : List ℕ) → bytes ≡ text ++ 13 ∷ following → length following < length bytes
longer text following bytes is = omega (arith, ap length is, length-append text (13 ∷ following))

-- a record is added
pub goes_before :
    (before after : RecordsState) (left next : Option Begun) (bytes following : List ℕ) (entry : Borrowed RecordContent)
    (messages more : List MessageTree)
    → ReadsRecord before after left bytes following entry → Adds left entry messages more
    → next ≡ left_after left entry entry.content.kind
    → LeadsBefore (unended left before) messages bytes following (unended next after) more
goes_before before after left next bytes following entry messages more r adds is = record {
  front = r.text ++ 13 ∷ [];
  whole = r.whole ∙ sym (append_assoc r.text (13 ∷ []) following);
  shorter = longer r.text following bytes r.whole;
  goes = λ past base c.
      subst (λ (l : Option Begun). IsSplit (past ++ (r.text ++ 13 ∷ [])) (base ++ more) l after.held) (sym is)
      (subst (λ (ms : List MessageTree). IsSplit (past ++ (r.text ++ 13 ∷ [])) ms
      (left_after left entry entry.content.kind) after.held)
      (append_assoc base messages (option_to_list adds.message) ∙ ap (λ (ms : List MessageTree). base ++ ms)
      (sym adds.added))
      (split_read before after past (base ++ messages) left bytes following entry adds.message c r adds.completes));
}

-- one is rejected
pub read_stops :
    (before after : RecordsState) (left : Option Begun) (bytes following : List ℕ) (fault : MessageFault)
    (messages : List MessageTree)
    → Refuses before after left bytes following fault → StopsIn (unended left before) messages bytes messages fault
read_stops before after left bytes following fault messages r past base c =
    split_stops past (base ++ messages) left before.held bytes fault c r.place r.why

-- memory runs out
pub memory_stops : (before : RecordsState) (left : Option Begun) (bytes : List ℕ) (messages more : List MessageTree)
    (fault : MessageFault) → fault.place ≡ next_place left → (fault.reason ≡ reasons.OutOfMemory) × (more ≡ messages)
    → StopsIn (unended left before) messages bytes more fault
memory_stops before left bytes messages more fault place memory past base c =
    subst (λ (ms : List MessageTree). StopsReading (past ++ bytes) (base ++ ms) fault) (sym memory.1)
    (inl (starved past (base ++ messages) left before.held bytes fault c place memory.0))

-- the record that was split is the one that the reader reports
pub split_reported : (before after : RecordsState) (left : Option Begun) (bytes following : List ℕ)
    (entry : Borrowed RecordContent) → Reads before after left bytes following found.Held → Some entry ≡ after.split
    → ReadsRecord before after left bytes following entry
split_reported before after left bytes following entry reads reported =
    let same : reads.0 ≡ entry = some_one (sym reads.1 ∙ sym reported) in
    subst (λ (e : Borrowed RecordContent). ReadsRecord before after left bytes following e) same reads.2
  where
    some_one : {x y : Borrowed RecordContent} → Some x ≡ Some y → x ≡ y
    some_one e = cc

-- ---- the law

pub reads_record : (before after : RecordsState) (stream : List ℕ) (messages : List MessageTree)
    (left : Option Begun) (bytes following : List ℕ) (entry : Borrowed RecordContent)
    → IsSplit stream messages left before.held → ReadsRecord before after left bytes following entry
    → (message : Option MessageTree) × Completes left entry message
    × IsReadUpTo stream bytes following (messages ++ option_to_list message)
    (left_after left entry entry.content.kind) after.held
reads_record before after stream messages left bytes following entry c r =
    let whole = completing left c.texts c.begun (before.held ++ r.text) entry r.comes in (
      whole.0,
      whole.1,
      (
        r.text ++ 13 ∷ [],
        r.whole ∙ sym (append_assoc r.text (13 ∷ []) following),
        split_read before after stream messages left bytes following entry whole.0 c r whole.1,
      ),
    )
