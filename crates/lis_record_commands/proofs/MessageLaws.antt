-- A stream of record text, message by message.
use Rattle.std.proofs.Common.{◌≡◌, ℕ, ◌+◌, ◌≤◌, Bool, true, false, List, [], ◌∷◌, ◌++◌, Option, None, Some, Ok, Err}
use Rattle.std.proofs.Common.{length, refl, sym, ◌∙◌, ap, subst, inl, inr, arith, append-nil, append_assoc}
use Rattle.std.proofs.Common.{length-append}
use Rattle.std.specs.Prelude.{IfOk}
use Rattle.std.specs.declared.result.Result.{Result}
use Rattle.std.specs.List.{AllZip, flat_map}
use Rattle.lis_record_values.specs.Delimiters.{DelimiterBytes}
use Rattle.lis_record_values.specs.Shape.{RecordContent}
use Rattle.lis_record_values.specs.Relation.{IsRecord}
use Rattle.lis_record_values.specs.declared.faults.MessageFault.{MessageFault}
use Rattle.lis_record_values.specs.declared.faults.Reason.TheVariants as reasons
use Rattle.lis_tree.specs.Begun.{Begun}
use Rattle.lis_tree.specs.Tree.{MessageTree, flatten}
use Rattle.lis_message.specs.Feeding.{answer_at_end, StopsReading}
use Rattle.lis_message.specs.Stream.{IsSplit, IsRefused, AreLeft, AreMessage, ended}
use Rattle.lis_message.specs.Taking.{records_of}
use Rattle.lis_engine.specs.declared.fault.ToolFault.{ToolFault}
use Rattle.lis_engine.specs.declared.fault.ToolFault.TheVariants.{CaptureLine, Read, Write, OutOfMemory, TooManyReads}
use Rattle.lis_engine.specs.Output.{IsPut, Out}
use Rattle.lis_engine.specs.Steps.{Ends, LineEnds, LineSteps}
use Rattle.lis_report.specs.Answers.{Report}
use Rattle.lis_record_commands.specs.Messages.{MessageWrites, messages_text, whole_outcome, record_count, report_after}
use Rattle.lis_record_commands.specs.Messages.{RunGives}

-- no byte is no message
pub split_nothing : IsSplit [] [] None []
split_nothing = record {
  groups = [];
  texts = [];
  whole = refl;
  read = tt;
  begun = refl;
  lacks = tt;
  short = omega arith;
}

pub messages_text-append :
    (w : MessageWrites) (n : ℕ) (xs ys : List MessageTree)
    → messages_text w n (xs ++ ys) ≡ messages_text w n xs ++ messages_text w (n + length xs) ys
messages_text-append w n [] ys = ap (λ (k : ℕ). messages_text w k ys) (omega arith)
messages_text-append w n (m ∷ xs) ys =
    ap (λ (t : List ℕ). w.message n m ++ t) (messages_text-append w (n + 1) xs ys)
    ∙ sym (append_assoc (w.message n m) (messages_text w (n + 1) xs) (messages_text w (n + 1 + length xs) ys))
    ∙ ap (λ (k : ℕ). w.message n m ++ messages_text w (n + 1) xs ++ messages_text w k ys) (omega arith)

-- ---- how many messages and records there are

pub record_count-append : (xs ys : List MessageTree) → record_count (xs ++ ys) ≡ record_count xs + record_count ys
record_count-append [] ys = omega arith
record_count-append (m ∷ xs) ys = omega (arith, record_count-append xs ys)

some_record : (m : MessageTree) → 1 ≤ length (flatten m)
some_record m = omega arith

pub messages_few : (ms : List MessageTree) → length ms ≤ record_count ms
messages_few [] = omega arith
messages_few (m ∷ ms) = omega (arith, some_record m, messages_few ms)

texts_few : (d : DelimiterBytes) (texts : List (List ℕ)) (rs : List RecordContent) → AllZip (IsRecord d) texts rs
    → length rs ≤ length (ended texts)
texts_few d [] [] each = omega arith
texts_few d [] (r ∷ rs) each = absurd each
texts_few d (text ∷ texts) [] each = omega arith
texts_few d (text ∷ texts) (r ∷ rs) each =
    omega (
      arith,
      length-append (text ++ 13 ∷ []) (ended texts),
      length-append text (13 ∷ []),
      texts_few d texts rs
          each.1,
    )

groups_few : (groups : List (List (List ℕ))) (messages : List MessageTree) → AllZip AreMessage groups messages
    → record_count messages ≤ length (flat_map ended groups)
groups_few [] [] are = omega arith
groups_few [] (m ∷ messages) are = absurd are
groups_few (g ∷ groups) [] are = omega arith
groups_few (g ∷ groups) (m ∷ messages) are =
    omega (
      arith,
      length-append (ended g) (flat_map ended groups),
      texts_few m.delimiters g (flatten m) are.0.each,
      groups_few groups messages are.1,
    )

left_few : (texts : List (List ℕ)) (left : Option Begun) → AreLeft texts left
    → length (records_of left) ≤ length (ended texts)
left_few texts None are = omega arith
left_few texts (Some begun) are = texts_few begun.delimiters texts begun.records are.each

-- a stream has no more records than bytes, with those of a message that isn't closed
pub split_few :
    (stream : List ℕ) (messages : List MessageTree) (left : Option Begun) (held : List ℕ)
    → IsSplit stream messages left held
    → record_count messages + length (records_of left) ≤ length stream
split_few stream messages left held split =
    rw split.whole (omega (
      arith,
      groups_few split.groups messages split.read,
      left_few split.texts left split.begun,
      length-append (flat_map ended split.groups ++ ended split.texts) held,
      length-append (flat_map ended split.groups) (ended split.texts),
    ))

pub is_refused : (stream : List ℕ) (messages : List MessageTree) (fault : MessageFault)
    → StopsReading stream messages fault
    → (fault.reason ≡ reasons.OutOfMemory → ⊥) → IsRefused stream messages fault
is_refused stream messages fault (inl starved) other = absurd (other starved.why)
is_refused stream messages fault (inr stop) other = stop

-- ---- what is put

-- a text that was put, or could not be
pub put_steps : (P : Type 0) (a b : Out) (text : List ℕ) (result : Result Unit ToolFault) → IsPut a b result text
    → IfOk result (λ done. P) → LineSteps false P a b text result
put_steps P a b text (Ok done) put is = (put, is)
put_steps P a b text (Err (Write written)) broke is = broke
put_steps P a b text (Err (CaptureLine line)) broke is = broke.part
put_steps P a b text (Err OutOfMemory) broke is = absurd broke.part
put_steps P a b text (Err Read) broke is = broke.part
put_steps P a b text (Err TooManyReads) broke is = broke.part

-- ---- the end

-- the command said so at the end
pub ends_through :
    (w : MessageWrites) (bytes : List ℕ) (at_end' : Bool) (a b : Out) (text : List ℕ) (messages : List MessageTree)
    (fault : Option MessageFault) (result : Result Report ToolFault)
    → RunGives w bytes at_end' (whole_outcome w messages fault) → text ≡ messages_text w 0 messages
    → LineEnds (report_after w messages fault) a b (w.last messages fault) result
    → Ends true (RunGives w bytes at_end') a b text result
ends_through w bytes at_end' a b text messages fault (Ok report) comes text_is (said, put) =
    record {
      more = w.last messages fault;
      put = put;
      following = rw said
          (whole_outcome w messages fault, comes, refl, ap (λ (t : List ℕ). t ++ w.last messages fault) (sym text_is));
    }
ends_through w bytes at_end' a b text messages fault (Err (Write written)) comes text_is broke =
    record {
      outcome = whole_outcome w messages fault;
      meant = comes;
      more = w.last messages fault;
      rest = [];
      joined = ap (λ (t : List ℕ). t ++ w.last messages fault) (sym text_is) ∙ sym (append-nil _);
      broke = broke;
    }
ends_through w bytes at_end' a b text messages fault (Err (CaptureLine line)) comes text_is broke = absurd broke.part
ends_through w bytes at_end' a b text messages fault (Err OutOfMemory) comes text_is broke = absurd broke.part
ends_through w bytes at_end' a b text messages fault (Err Read) comes text_is broke = absurd broke.part
ends_through w bytes at_end' a b text messages fault (Err TooManyReads) comes text_is broke = absurd broke.part

pub nothing_left : (left : Option Begun) (held : List ℕ) → answer_at_end left held ≡ Ok tt → (left ≡ None) × (held ≡ [])
nothing_left None [] e = (refl, refl)
nothing_left None (b ∷ held) e = cc
nothing_left (Some begun) held e = cc

-- the split where nothing is left
pub split_whole : (stream : List ℕ) (messages : List MessageTree) (left : Option Begun) (held : List ℕ)
    → IsSplit stream messages left held → left ≡ None → held ≡ [] → IsSplit stream messages None []
split_whole stream messages left held split none nil =
    subst (λ (l : Option Begun). IsSplit stream messages l []) none
    (subst (λ (h : List ℕ). IsSplit stream messages left h) nil split)
