-- Record text, record by record: what a step puts, and steps one after the other.
use Rattle.std.proofs.Common.{◌≡◌, ℕ, ◌+◌, ◌<◌, ◌^◌, true, false, List, [], ◌∷◌, ◌++◌, Option, None, Some, Ok, Err}
use Rattle.std.proofs.Common.{length, refl, sym, ◌∙◌, ap, subst, inl, inr, arith, append-nil, append_assoc}
use Rattle.std.proofs.Common.{length-append}
use Rattle.std.specs.Prelude.{IfOk, is_some}
use Rattle.std.specs.declared.result.Result.{Result}
use Rattle.std.specs.Option.{option_to_list}
use Rattle.std.specs.Result.{result_err}
use Rattle.lis_record_values.specs.declared.kinds.Kind.TheVariants as kinds
use Rattle.lis_record_values.specs.Delimiters.{DelimiterBytes}
use Rattle.lis_record_values.specs.Shape.{RecordContent}
use Rattle.lis_message.specs.Feeding.{StopsReading, answer_at_end}
use Rattle.lis_message.specs.Kept.{RecordsState}
use Rattle.lis_message.specs.Records.{HasLeft, ReadsOn, ReadsRecord, Refuses}
use Rattle.lis_message.specs.Stream.{IsSplit, IsReadFrom}
use Rattle.lis_message.specs.Taking.{ComesNext, Completes, begun_with, left_after, records_of}
use Rattle.lis_message.proofs.Splits.{left_after-more}
use Rattle.lis_message.proofs.EveryStream.{goes_on as reads_more}
use Rattle.lis_message.proofs.RecordLaws.{split_held, split_stops, reads_record}
use Rattle.lis_record.specs.Borrowed.{Borrowed}
use Rattle.lis_record_values.specs.declared.faults.MessageFault.{MessageFault}
use Rattle.lis_record_values.specs.declared.faults.Reason.TheVariants as reasons
use Rattle.lis_tree.specs.Begun.{Begun}
use Rattle.lis_tree.specs.Tree.{MessageTree, flatten}
use Rattle.lis_engine.specs.declared.fault.ToolFault.{ToolFault}
use Rattle.lis_engine.specs.declared.fault.ToolFault.TheVariants.{CaptureLine, Read, Write, OutOfMemory, TooManyReads}
use Rattle.lis_engine.specs.declared.machine.Stop.TheVariants.{Fault, Refused}
use Rattle.lis_engine.specs.Output.{IsWorking, Out}
use Rattle.lis_engine.specs.Steps.{Ends, Halts, LineEnds, LineSteps, Puts, Steps}
use Rattle.lis_engine.proofs.OutputLaws.{nothing_put, put_on}
use Rattle.lis_report.specs.Answers.{Outcome, Report}
use Rattle.lis_report.specs.inside.Answers.{Stop}
use Rattle.lis_record_commands.specs.Messages.{IsReadingMessages, MessageWrites, RunGives, complete, ended_early}
use Rattle.lis_record_commands.specs.Messages.{messages_text}
use Rattle.lis_record_commands.specs.Messages.{record_count, refused, report_after, whole_begun, whole_outcome}
use Rattle.lis_record_commands.specs.Messages.{with_record}
use Rattle.lis_record_commands.specs.inside.Messages.{Advances, StopsAt, StopsIn, stop_by}
use Rattle.lis_record_commands.proofs.MessageLaws.{ends_through, is_refused, messages_few, messages_text-append}
use Rattle.lis_record_commands.proofs.MessageLaws.{nothing_left, split_few, split_whole}
use Rattle.lis_record_commands.proofs.MessageRunLaws.{read_after}

-- ---- what a record completes

module _ (w : MessageWrites) (represents after : List MessageTree → Option Begun → Type 0) (messages : List MessageTree)
    (left : Option Begun) (entry : Borrowed RecordContent) (a b : Out) (count next : ℕ) where
  -- the closing record
  pub closing_steps :
      (message : Option MessageTree) (result : Result Unit ToolFault)
      → entry.content.kind ≡ kinds.L → Completes left entry message → represents messages (with_record left entry)
      → count ≡ length messages
      → ((m : MessageTree) → represents messages (whole_begun m) → record_count (messages ++ m ∷ []) < 2 ^ 44
      → LineSteps false (after (messages ++ m ∷ []) None) a b (w.message (length messages) m) result)
      → record_count (messages ++ option_to_list message) < 2 ^ 44
      → IfOk result (λ done. count < 2 ^ 44 → next ≡ count + 1)
      → LineSteps true (after (messages ++ option_to_list message) (left_after left entry entry.content.kind)
      × (next ≡ length (messages ++ option_to_list message)))
      a b (messages_text w (length messages) (option_to_list message)) result
  closing_steps None result kind completes represented is writes few counts = absurd (completes kind)
  closing_steps (Some m) result kind completes represented is writes few counts =
      rw (append-nil (w.message (length messages) m))
      (by result counts (writes m (subst (represents messages) closed represented) few))
    where
      closed : with_record left entry ≡ whole_begun m
      closed =
          sym (ap (λ (d : DelimiterBytes). begun_with d (flatten m)) completes.2
          ∙ ap (λ (rs : List RecordContent). begun_with entry.delimiters rs) completes.3)

      all : List MessageTree
      all = messages ++ m ∷ []

      by : (r : Result Unit ToolFault) → IfOk r (λ done. count < 2 ^ 44 → next ≡ count + 1)
          → LineSteps false (after all None) a b (w.message (length messages) m) r
          → LineSteps true (after all (left_after left entry entry.content.kind) × (next ≡ length all)) a b
          (w.message (length messages) m) r
      by (Ok done) counted steps =
          let short : count < 2 ^ 44 = omega (arith, few, is, messages_few all, length-append messages (m ∷ [])) in (
            steps.0,
            (
              subst (after all) (sym (ap (left_after left entry) kind)) steps.1,
              omega (arith, counted short, is, length-append messages (m ∷ [])),
            ),
          )
      by (Err (Write written)) counted steps = steps
      by (Err OutOfMemory) counted steps = absurd (no steps.0)
        where
          no : false ≡ true → ⊥
          no e = cc
      by (Err (CaptureLine line)) counted steps = steps
      by (Err Read) counted steps = steps
      by (Err TooManyReads) counted steps = steps

-- a record that completes none
pub open_steps :
    (w : MessageWrites) (represents : List MessageTree → Option Begun → Type 0) (messages : List MessageTree)
    (left : Option Begun) (entry : Borrowed RecordContent) (message : Option MessageTree) (a : Out) (count : ℕ)
    → IsWorking a → (entry.content.kind ≡ kinds.L → ⊥) → Completes left entry message
    → represents messages (with_record left entry) → count ≡ length messages
    → LineSteps true (represents (messages ++ option_to_list message) (left_after left entry entry.content.kind)
    × (count ≡ length (messages ++ option_to_list message))) a a
    (messages_text w (length messages) (option_to_list message)) (Ok tt)
open_steps w represents messages left entry None a count working other completes represented is = (
  nothing_put a working,
  (
    subst (λ (ms : List MessageTree). represents ms (left_after left entry entry.content.kind))
        (sym (append-nil messages))
        (subst (represents messages) (sym (left_after-more left entry entry.content.kind other)) represented),
    is ∙ ap length (sym (append-nil messages)),
  ),
)
open_steps w represents messages left entry (Some m) a count working other completes represented is =
    absurd (other completes.0)

-- ---- a record

module _ (w : MessageWrites) (represents after : List MessageTree → Option Begun → Type 0) (before now : RecordsState)
    (count next : ℕ) (bytes following : List ℕ) (entry : Borrowed RecordContent) (a b : Out)
    (reads : (left : Option Begun) → HasLeft before left → ReadsRecord before now left bytes following entry) where
  -- the command takes it
  abbrev Takes : Result Unit ToolFault → Type 0
  Takes result =
      (messages : List MessageTree) (left : Option Begun) (message : Option MessageTree) (line : List ℕ)
      → represents messages left → count ≡ length messages → ComesNext left line entry → Completes left entry message
      → record_count messages + length (records_of left) < 2 ^ 44
      → record_count (messages ++ option_to_list message) < 2 ^ 44
      → LineSteps true (after (messages ++ option_to_list message) (left_after left entry entry.content.kind)
      × (next ≡ length (messages ++ option_to_list message)))
      a b (messages_text w (length messages) (option_to_list message)) result

  -- the messages after it, of a part of the bytes, and what was put for the last
  record IsTaken (past text : List ℕ) (result : Result Unit ToolFault) : Type 0 where
    pub front : List ℕ
    pub whole : bytes ≡ front ++ following
    pub all : List MessageTree
    pub left : Option Begun
    pub has : HasLeft now left
    pub split : IsSplit (past ++ front) all left now.held
    pub more : List ℕ
    pub text_is : text ++ more ≡ messages_text w 0 all
    pub steps : LineSteps true (after all left × (next ≡ length all)) a b more result

  is_taken : (past text : List ℕ) (result : Result Unit ToolFault) → Takes result
      → IsReadingMessages w represents before count past text
      → length past + length bytes < 2 ^ 44 → IsTaken past text result
  is_taken past text result takes reading few =
      let r = reads reading.left reading.has in
      let found = reads_record before now past reading.messages reading.left bytes following entry reading.split r in
      let all = reading.messages ++ option_to_list found.0 in
      let short : record_count reading.messages + length (records_of reading.left) < 2 ^ 44 =
      omega (arith, few, split_few past reading.messages reading.left before.held reading.split) in
      let short' : record_count all < 2 ^ 44 =
      omega (
        arith,
        few,
        split_few (past ++ found.2.0) all _ now.held found.2.2,
        length-append past found.2.0,
        ap length found.2.1,
        length-append found.2.0 following,
      ) in
      record {
        front = found.2.0;
        whole = found.2.1;
        all = all;
        left = left_after reading.left entry entry.content.kind;
        has = r.left_then;
        split = found.2.2;
        more = messages_text w (length reading.messages) (option_to_list found.0);
        text_is =
            ap (λ (t : List ℕ). t ++ messages_text w (length reading.messages) (option_to_list found.0)) reading.text_is
            ∙ ap (λ (k : ℕ). messages_text w 0 reading.messages ++ messages_text w k (option_to_list found.0))
            (omega arith)
            ∙ sym (messages_text-append w 0 reading.messages (option_to_list found.0));
        steps =
            takes reading.messages reading.left found.0 (before.held ++ r.text) reading.represented reading.count_is
            r.comes found.1 short short';
      }

  pub record_advances : Takes (Ok tt) → Advances (IsReadingMessages w represents before count)
      (IsReadingMessages w after now next) bytes following a b
  record_advances takes = record {
    reads = λ past text reading few.
        let taken = is_taken past text (Ok tt) takes reading few in (
          taken.front,
          taken.whole,
          record {
            more = taken.more;
            put = taken.steps.0;
            following = record {
              messages = taken.all;
              left = taken.left;
              has = taken.has;
              split = taken.split;
              represented = taken.steps.1.0;
              count_is = taken.steps.1.1;
              text_is = taken.text_is;
            };
          },
        );
  }

  bytes_are : (past front : List ℕ) → bytes ≡ front ++ following → past ++ bytes ≡ (past ++ front) ++ following
  bytes_are past front whole =
      ap (λ (l : List ℕ). past ++ l) whole ∙ sym (append_assoc past front following)

  stopped : (fault : ToolFault) (past text : List ℕ) → IsTaken past text (Err fault)
      → StopsAt w (past ++ bytes) a b text (Fault fault)
  stopped (Write written) past text taken =
      let later = read_after w (past ++ bytes) false taken.all
      (subst (λ (l : List ℕ). IsReadFrom l taken.all) (sym (bytes_are past taken.front taken.whole))
      (reads_more following (past ++ taken.front) taken.all taken.left now.held taken.split)) in
      record {
        outcome = later.outcome;
        meant = inl later.reads;
        more = taken.more;
        rest = later.rest ++ later.outcome.closing;
        joined =
            ap (λ (t : List ℕ). t ++ later.outcome.closing)
            (later.text_is ∙ ap (λ (t : List ℕ). t ++ later.rest) (sym taken.text_is))
            ∙ append_assoc (text ++ taken.more) later.rest later.outcome.closing;
        broke = taken.steps;
      }
  stopped OutOfMemory past text taken =
      let some = taken.steps.1 in
      let rest = taken.steps.2 in
      record {
        more = some;
        put = taken.steps.4;
        following = (
          record { text = messages_text w 0 taken.all; closing = []; halt = Some (Err OutOfMemory) },
          inr (record {
            front = past ++ taken.front;
            more = following;
            joined = bytes_are past taken.front taken.whole;
            messages = taken.all;
            left = taken.left;
            held = now.held;
            split = taken.split;
            outcome_is = refl;
          }),
          rest,
          sym taken.text_is ∙ ap (λ (t : List ℕ). text ++ t) taken.steps.3 ∙ sym (append_assoc text some rest),
          refl,
        );
      }
  stopped (CaptureLine line) past text taken = absurd taken.steps
  stopped Read past text taken = taken.steps
  stopped TooManyReads past text taken = taken.steps

  pub record_stops : (fault : ToolFault) → Takes (Err fault)
      → StopsIn w (IsReadingMessages w represents before count) bytes a b (Fault fault)
  record_stops fault takes = record {
    stops = λ past text reading few. stopped fault past text (is_taken past text (Err fault) takes reading few);
  }

-- ---- no record ends in the bytes

pub held_advances :
    {w : MessageWrites} {represents : List MessageTree → Option Begun → Type 0} {before now : RecordsState} {count : ℕ}
    {bytes following : List ℕ} {a : Out} → IsWorking a
    → ((left : Option Begun) → HasLeft before left → ReadsOn before now left bytes following)
    → Advances (IsReadingMessages w represents before count) (IsReadingMessages w represents now count) bytes following
    a a
held_advances {before = before} {now = now} {bytes = bytes} {following = following} {a = a} working reads = record {
  reads = λ past text reading few.
      let r = reads reading.left reading.has in (
        bytes,
        sym (ap (λ (l : List ℕ). bytes ++ l) r.all ∙ append-nil bytes),
        record {
          more = [];
          put = nothing_put a working;
          following = rw (append-nil text) (record {
            messages = reading.messages;
            left = reading.left;
            has = r.left_then;
            split = split_held before now past reading.messages reading.left bytes following reading.split r;
            represented = reading.represented;
            count_is = reading.count_is;
            text_is = reading.text_is;
          });
        },
      );
}

-- ---- a record is rejected, or memory runs out

stops_part :
    (w : MessageWrites) (stream : List ℕ) (messages : List MessageTree) (fault : MessageFault)
    → StopsReading stream messages fault
    → (o : Outcome) × RunGives w stream false o × (o.text ≡ messages_text w 0 messages)
stops_part w stream messages fault (inl starved) = (
  record { text = messages_text w 0 messages; closing = []; halt = Some (Err OutOfMemory) },
  inr (record {
    front = starved.front;
    more = starved.more;
    joined = starved.whole;
    messages = messages;
    left = starved.left;
    held = [];
    split = starved.split;
    outcome_is = refl;
  }),
  refl,
)
stops_part w stream messages fault (inr is) =
    (whole_outcome w messages (Some fault), inl (refused messages fault is refl), refl)

-- memory ran out
pub starved_at :
    (w : MessageWrites) (stream : List ℕ) (a : Out) (text : List ℕ) (messages : List MessageTree)
    (fault : MessageFault)
    → IsWorking a → text ≡ messages_text w 0 messages → StopsReading stream messages fault
    → StopsAt w stream a a text (Fault OutOfMemory)
starved_at w stream a text messages fault working text_is stops =
    let part = stops_part w stream messages fault stops in
    record {
      more = [];
      put = nothing_put a working;
      following =
          (part.0, part.1, [], part.2 ∙ sym text_is ∙ sym (append-nil text) ∙ sym (append-nil (text ++ [])), refl);
    }

-- a record was rejected, or the sink failed in the lines on it
pub refused_at :
    (w : MessageWrites) (stream : List ℕ) (a b : Out) (text : List ℕ) (messages : List MessageTree)
    (fault : MessageFault) (result : Result Report ToolFault) → text ≡ messages_text w 0 messages
    → StopsReading stream messages fault → (fault.reason ≡ reasons.OutOfMemory → ⊥)
    → LineEnds (report_after w messages (Some fault)) a b (w.last messages (Some fault)) result
    → StopsAt w stream a b text (stop_by result)
refused_at w stream a b text messages fault result text_is stops other last =
    by result last
    (ends_through w stream false a b text messages (Some fault) result
    (inl (refused messages fault (is_refused stream messages fault stops other) refl)) text_is last)
  where
    by : (r : Result Report ToolFault) → LineEnds (report_after w messages (Some fault)) a b
        (w.last messages (Some fault)) r → Ends true (RunGives w stream false) a b text r
        → StopsAt w stream a b text (stop_by r)
    by (Ok report) said ends = (ends, refl, ap (λ (r : Report). is_some r.refused) said.0)
    by (Err stop) said ends = ends

pub read_few :
    (w : MessageWrites) (represents : List MessageTree → Option Begun → Type 0) (reader : RecordsState) (count : ℕ)
    (past text : List ℕ)
    → (reading : IsReadingMessages w represents reader count past text) → length past < 2 ^ 44
    → length reading.messages < 2 ^ 44
read_few w represents reader count past text reading few =
    omega (
      arith,
      few,
      split_few past reading.messages reading.left reader.held reading.split,
      messages_few
          reading.messages,
    )

-- ---- the input ends

pub ends_by :
    {w : MessageWrites} {represents : List MessageTree → Option Begun → Type 0} {reader : RecordsState} {count : ℕ}
    {past text : List ℕ} (a b : Out) (answer : Result Unit MessageFault) (result : Result Report ToolFault)
    → ((left : Option Begun) → HasLeft reader left → answer ≡ answer_at_end left reader.held)
    → ((messages : List MessageTree) (left : Option Begun) → represents messages left → count ≡ length messages
    → length messages < 2 ^ 44
    → LineEnds (report_after w messages (result_err answer)) a b (w.last messages (result_err answer)) result)
    → IsReadingMessages w represents reader count past text → length past < 2 ^ 44
    → Ends true (RunGives w past true) a b text result
ends_by {w} {represents} {reader} {count} {past} {text} a b answer result read ends reading few =
    ends_through w past true a b text reading.messages (result_err answer) result
    (by answer (sym (read reading.left reading.has))) reading.text_is
    (ends reading.messages reading.left reading.represented reading.count_is
    (read_few w represents reader count past text reading few))
  where
    by : (r : Result Unit MessageFault) → answer_at_end reading.left reader.held ≡ r
        → RunGives w past true (whole_outcome w reading.messages (result_err r))
    by (Ok done) is =
        let nothing = nothing_left reading.left reader.held is in
        inl (complete reading.messages (split_whole past reading.messages _ _ reading.split nothing.0 nothing.1) refl
        refl)
    by (Err fault) is =
        inl (ended_early reading.messages fault
        (record { left = reading.left; held = reader.held; split = reading.split; why = is }) refl refl)

-- ---- the bytes in which a record is rejected

pub refused_stops :
    {w : MessageWrites} {represents : List MessageTree → Option Begun → Type 0} {before now : RecordsState} {count : ℕ}
    {bytes following : List ℕ} {fault : MessageFault} {a b : Out} {stop : Stop}
    → ((messages : List MessageTree) (left : Option Begun) (stream reported : List ℕ) → represents messages left
    → count ≡ length messages → length messages < 2 ^ 44 → reported ≡ messages_text w 0 messages
    → StopsReading stream messages fault → StopsAt w stream a b reported stop)
    → ((left : Option Begun) → HasLeft before left → Refuses before now left bytes following fault)
    → StopsIn w (IsReadingMessages w represents before count) bytes a b stop
refused_stops {w} {represents} {before} {count = count} {bytes = bytes} {fault = fault} refuses reads = record {
  stops = λ past text reading few.
      let r = reads reading.left reading.has in
      refuses reading.messages reading.left (past ++ bytes) text reading.represented reading.count_is
      (read_few w represents before count past text reading (omega (arith, few))) reading.text_is
      (split_stops past reading.messages reading.left before.held bytes fault reading.split r.place r.why);
}

-- ---- one step after another

pub advances_none : {here : List ℕ → List ℕ → Type 0} {bytes : List ℕ} {a : Out} → IsWorking a
    → Advances here here bytes bytes a a
advances_none {here} {bytes} {a} working = record {
  reads = λ past text reading few. (
    [],
    refl,
    record {
      more = [];
      put = nothing_put a working;
      following = rw (append-nil past, append-nil text) reading;
    },
  );
}

module _ (a b c : Out) where
  puts_then : (here holds : List ℕ → Type 0) (text : List ℕ) (first : Puts here a b text)
      → Puts holds b c (text ++ first.more) → Puts holds a c text
  puts_then here holds text first second =
      record {
        more = first.more ++ second.more;
        put = put_on a b c (Ok tt) first.more second.more first.put second.put;
        following = subst holds (append_assoc text first.more second.more) second.following;
      }

  ends_then :
      (here : List ℕ → Type 0) (means : Outcome → Type 0) (text : List ℕ) (result : Result Report ToolFault)
      (first : Puts here a b text) → Ends true means b c (text ++ first.more) result → Ends true means a c text result
  ends_then here means text (Ok report) first ends =
      puts_then here (λ all. Halts true means all (Ok report)) text first ends
  ends_then here means text (Err (Write written)) first ends =
      record {
        outcome = ends.outcome;
        meant = ends.meant;
        more = first.more ++ ends.more;
        rest = ends.rest;
        joined = ends.joined ∙ ap (λ (t : List ℕ). t ++ ends.rest) (append_assoc text first.more ends.more);
        broke = put_on a b c (Err (Write written)) first.more ends.more first.put ends.broke;
      }
  ends_then here means text (Err (CaptureLine line)) first ends =
      puts_then here (λ all. Halts true means all (Err (CaptureLine line))) text first ends
  ends_then here means text (Err OutOfMemory) first ends =
      puts_then here (λ all. Halts true means all (Err OutOfMemory)) text first ends
  ends_then here means text (Err Read) first ends = ends
  ends_then here means text (Err TooManyReads) first ends = ends

  -- as the machine of the command answers
  at_then :
      (here represents : List ℕ → Type 0) (means : Outcome → Type 0) (text : List ℕ) (stop : Stop)
      (first : Puts here a b text) → Steps true true (λ all. ⊥) means b c (text ++ first.more) (Err stop)
      → Steps true true represents means a c text (Err stop)
  at_then here represents means text (Refused report) first at =
      (ends_then here means text (Ok report) first at.0, at.1, at.2)
  at_then here represents means text (Fault fault) first at = ends_then here means text (Err fault) first at

few_left : (past bytes done rest : List ℕ) → bytes ≡ done ++ rest → length past + length bytes < 2 ^ 44
    → length (past ++ done) + length rest < 2 ^ 44
few_left past bytes done rest whole few =
    omega (arith, few, ap length whole, length-append past done, length-append done rest)

pub advances_then :
    {before here after : List ℕ → List ℕ → Type 0} {bytes rest following : List ℕ} {a b c : Out}
    → Advances before here bytes rest a b → Advances here after rest following b c
    → Advances before after bytes following a c
advances_then {before} {here} {after} {bytes} {rest} {following} {a} {b} {c} so_far step = record {
  reads = λ past text reading few.
      let (done, whole, first) = so_far.reads past text reading few in
      let (more, next_whole, next) =
      step.reads (past ++ done) (text ++ first.more) first.following (few_left past bytes done rest whole few) in (
        done ++ more,
        whole ∙ ap (λ (l : List ℕ). done ++ l) next_whole ∙ sym (append_assoc done more following),
        puts_then a b c (here (past ++ done)) (after (past ++ (done ++ more))) text first
            (subst (λ (l : List ℕ). Puts (after l) b c (text ++ first.more)) (append_assoc past done more) next),
      );
}

-- the run ends there
pub stops_then :
    {w : MessageWrites} {before here : List ℕ → List ℕ → Type 0} {bytes rest : List ℕ} {a b c : Out} {stop : Stop}
    → Advances before here bytes rest a b → StopsIn w here rest b c stop → (represents : List ℕ → Type 0)
    (past text : List ℕ) → before past text → length past + length bytes < 2 ^ 44
    → Steps true true represents (RunGives w (past ++ bytes) false) a c text (Err stop)
stops_then {w} {before} {here} {bytes} {rest} {a} {b} {c} {stop} so_far stopping represents past text reading few =
    let (done, whole, first) = so_far.reads past text reading few in
    at_then a b c (here (past ++ done)) represents (RunGives w (past ++ bytes) false) text stop first
    (subst (λ (l : List ℕ). Steps true true (λ all. ⊥) (RunGives w l false) b c (text ++ first.more) (Err stop))
    (append_assoc past done rest ∙ ap (λ (l : List ℕ). past ++ l) (sym whole))
    (stopping.stops (past ++ done) (text ++ first.more) first.following (few_left past bytes done rest whole few)))

-- all of the bytes
pub all_advanced :
    {before here : List ℕ → List ℕ → Type 0} {bytes : List ℕ} {a b : Out} (rest : List ℕ)
    → Advances before here bytes rest a b → length rest ≡ 0 → (past text : List ℕ) → before past text
    → length past + length bytes < 2 ^ 44 → Puts (here (past ++ bytes)) a b text
all_advanced {before} {here} {bytes} {a} {b} [] so_far none past text reading few =
    let all = so_far.reads past text reading few in
    subst (λ (l : List ℕ). Puts (here (past ++ l)) a b text) (sym (append-nil all.0) ∙ sym all.1) all.2
all_advanced (x ∷ rest) so_far none past text reading few = absurd cc
