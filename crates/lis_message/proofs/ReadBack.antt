-- Messages that are written are read back.
use Rattle.std.proofs.Common.{◌≡◌, ℕ, List, [], ◌∷◌, ◌++◌, map, Option, Some, None, Result, Ok, Err, ⊎_elim, refl}
use Rattle.std.proofs.Common.{sym, ◌∙◌, ap, arith}
use Rattle.std.specs.List.{AllByRecursion, AllZip, flat_map}
use Rattle.std.specs.Prelude.{MatchOption, OnOk}
use Rattle.std.proofs.lemmas.List.{append-nil}
use Rattle.lis_record_values.specs.Delimiters.{DelimiterBytes, IsDelimiters}
use Rattle.lis_record_values.specs.Relation.{IsRecord}
use Rattle.lis_record_values.specs.Shape.{RecordContent, IsRecordShape}
use Rattle.lis_record_write.specs.Encoding.{encoded, written}
use Rattle.lis_record_write.proofs.ReadBack.{IsRecord-encoded}
use Rattle.lis_record_values.specs.declared.faults.MessageFault.{MessageFault}
use Rattle.lis_record_values.specs.declared.faults.Reason.TheVariants as reasons
use Rattle.lis_tree.specs.Begun.{Begun}
use Rattle.lis_message.specs.Feeding.{ReadsWhole, StopsReading, IsOutOfMemory, EndsEarly, answer_at_end}
use Rattle.lis_message.specs.Stream.{ended, AreMessage, IsMessage, IsSplit, IsRefused}
use Rattle.lis_tree.specs.Tree.{MessageTree, IsTree, flatten}
use Rattle.lis_message.specs.Writing.{message_bytes, records_bytes, AreWritable, IsWritable}
use Rattle.lis_message.proofs.Reading.{split_one}
use Rattle.lis_message.proofs.Refusals.{refused_uncut}

-- the texts of records as they are written
abbrev texts_of : DelimiterBytes → List RecordContent → List (List ℕ)
texts_of d rs = map (encoded d) rs

lines_written : (d : DelimiterBytes) (rs : List RecordContent) → records_bytes d rs ≡ ended (texts_of d rs)
lines_written d [] = refl
lines_written d (r ∷ rs) = ap (λ l. written d r ++ l) (lines_written d rs)

texts_read : (d : DelimiterBytes) → IsDelimiters d → (rs : List RecordContent) → AllByRecursion IsRecordShape rs
    → AreWritable d rs → AllZip (IsRecord d) (texts_of d rs) rs
texts_read d good [] shapes writable = tt
texts_read d good (r ∷ rs) shapes writable =
    (IsRecord-encoded d good r shapes.0 writable.0, texts_read d good rs shapes.1 writable.1)

written_message : (m : MessageTree) → IsTree m → IsWritable m → AreMessage (texts_of m.delimiters (flatten m)) m
written_message m is writable = record {
  tree = is;
  each =
      texts_read m.delimiters is.delimiters (flatten m) is.records writable;
}

-- what is written of a message is that message
pub message_back : (m : MessageTree) → IsTree m → IsWritable m → IsMessage (message_bytes m) m
message_back m is writable =
    (texts_of m.delimiters (flatten m), lines_written m.delimiters (flatten m), written_message m is writable)

abbrev groups_of : List MessageTree → List (List (List ℕ))
groups_of ms = map (λ m. texts_of m.delimiters (flatten m)) ms

groups_written : (ms : List MessageTree) → flat_map message_bytes ms ≡ flat_map ended (groups_of ms)
groups_written [] = refl
groups_written (m ∷ ms) = ap (λ l. l ++ flat_map message_bytes ms) (lines_written m.delimiters (flatten m))
    ∙ ap (λ l. ended (texts_of m.delimiters (flatten m)) ++ l) (groups_written ms)

groups_read : (ms : List MessageTree) → AllByRecursion IsTree ms → AllByRecursion IsWritable ms
    → AllZip AreMessage (groups_of ms) ms
groups_read [] are writable = tt
groups_read (m ∷ ms) are writable = (written_message m are.0 writable.0, groups_read ms are.1 writable.1)

-- messages in a row are the split of their bytes
pub messages_split : (ms : List MessageTree) → AllByRecursion IsTree ms → AllByRecursion IsWritable ms
    → IsSplit (flat_map message_bytes ms) ms None []
messages_split ms are writable = record {
  groups = groups_of ms;
  texts = [];
  whole = groups_written ms ∙ sym (append-nil (flat_map ended (groups_of ms)))
      ∙ ap (λ l. l) (sym (append-nil (flat_map ended (groups_of ms) ++ [])));
  read = groups_read ms are writable;
  begun = refl;
  lacks = tt;
  short = omega arith;
}

-- and no other
pub messages_one : (ms : List MessageTree) → AllByRecursion IsTree ms → AllByRecursion IsWritable ms
    → (others : List MessageTree) (left : Option Begun) (held : List ℕ)
    → IsSplit (flat_map message_bytes ms) others left held
    → (others ≡ ms) × (left ≡ None) × (held ≡ [])
messages_one ms are writable others left held c =
    split_one (flat_map message_bytes ms) others ms left None held [] c (messages_split ms are writable)

-- so they are what is read
pub reads_back : (ms : List MessageTree) → AllByRecursion IsTree ms → AllByRecursion IsWritable ms
    → (messages : List MessageTree) (fault : Option MessageFault)
    → ReadsWhole (flat_map message_bytes ms) messages fault
    → MatchOption fault (messages ≡ ms) (λ f. f.reason ≡ reasons.OutOfMemory)
reads_back ms are writable messages None r = (messages_one ms are writable messages None [] r).0
reads_back ms are writable messages (Some f) r =
    ⊎_elim (λ (s : StopsReading (flat_map message_bytes ms) messages f).
    ⊎_elim (λ (oom : IsOutOfMemory (flat_map message_bytes ms) messages f). oom.why)
    (λ (refused : IsRefused (flat_map message_bytes ms) messages f). absurd
    (refused_uncut (flat_map message_bytes ms) messages ms f None [] refused (messages_split ms are writable))) s)
    (λ (short : EndsEarly (flat_map message_bytes ms) messages f).
    let one = messages_one ms are writable messages short.left short.held short.split in
    let done : answer_at_end short.left short.held ≡ Ok tt =
    ap (λ l. answer_at_end l short.held) one.1 ∙ ap (answer_at_end None) one.2 in
    let clash : Ok tt ≡ Err f = sym done ∙ short.why in absurd cc) r

-- the same, with the record of it by cases of a result
pub written_back : (m : MessageTree) → IsTree m → AreWritable m.delimiters (flatten m) → IsMessage (message_bytes m) m
written_back m is writable = message_back m is writable

pub on_ok : {T E : Type 0} {P : Type 0} (r : Result T E) → P → OnOk r P
on_ok (Ok x) p = p
on_ok (Err e) p = tt
