-- Findings and records, and how many there are.
use Rattle.std.proofs.Common.{◌≡◌, ℕ, ◌+◌, ◌<◌, ◌≤◌, ◌^◌, Bool, true, false, List, [], ◌∷◌, ◌++◌, Option}
use Rattle.std.proofs.Common.{None, Some, length, refl}
use Rattle.std.proofs.Common.{sym, ◌∙◌, ap, arith, append-nil, append_assoc, length-append, nat_lt}
use Rattle.std.proofs.Common.{not, ◌&&◌, if◌then◌else◌, subst}
use Rattle.std.specs.Prelude.{IfOk}
use Rattle.std.specs.declared.result.Result.{Result}
use Rattle.std.proofs.lemmas.Grind.{flat_map-append}
use Rattle.std.specs.List.{flat_map}
use Rattle.std.specs.Option.{option_to_list}
use Rattle.lis_record_values.specs.declared.kinds.Kind.{Kind}
use Rattle.lis_record_values.specs.Shape.{RecordContent, field_at}
use Rattle.lis_message.specs.Taking.{records_of}
use Rattle.lis_record.specs.Borrowed.{Borrowed}
use Rattle.lis_tree.specs.declared.numbering.Numbering.{Numbering}
use Rattle.lis_tree.specs.Begun.{Begun}
use Rattle.lis_tree.specs.declared.numbering.Finding.{Finding}
use Rattle.lis_tree.specs.Findings.{HasNumbered, finding_on, findings_from, findings_of}
use Rattle.lis_tree.specs.Numbers.{expected_number, field_number, is_number, is_numbered}
use Rattle.lis_bytes.specs.Capped.{capped}
use Rattle.lis_tree.specs.Tree.{MessageTree, flatten}
use Rattle.lis_report.specs.Codes.{refused_line}
use Rattle.lis_report.specs.declared.refused.Refused.{Refused}
use Rattle.lis_report.specs.Answers.{Report}
use Rattle.lis_engine.specs.Output.{IsPut, Out}
use Rattle.lis_engine.specs.Parts.{text_if_any}
use Rattle.lis_engine.specs.Steps.{LineSteps}
use Rattle.lis_engine.specs.declared.fault.ToolFault.{ToolFault}
use Rattle.lis_record_commands.specs.Check.{check_message, check_writes, finding_count, finding_line, message_line}
use Rattle.lis_record_commands.specs.Check.{record_line, record_lines, sums_line}
use Rattle.lis_record_commands.specs.inside.Check.{IsChecking}
use Rattle.lis_record_commands.specs.Messages.{record_count, report_after, whole_begun, with_record}
use Rattle.lis_record_values.specs.declared.faults.MessageFault.{MessageFault}
use Rattle.lis_record_commands.proofs.MessageLaws.{messages_few, put_steps, record_count-append}

one_at_most : (b : Bool) (f : Finding) → length (let fs : List Finding = if b then f ∷ [] else [] in fs) ≤ 1
one_at_most true f = omega arith
one_at_most false f = omega arith

findings_few_from : (earlier : List Kind) (place : ℕ) (rs : List RecordContent)
    → length (findings_from earlier place rs) ≤ length rs
findings_few_from earlier place [] = omega arith
findings_few_from earlier place (r ∷ rs) =
    omega (
      arith,
      length-append (finding_on earlier place r) (findings_from (r.kind ∷ earlier) (place + 1) rs),
      one_at_most (is_numbered r.kind && not (is_number (field_number (field_at r 2))
          (capped (expected_number r.kind earlier))))
          (record { place = capped place; kind = r.kind; expected = capped (expected_number r.kind earlier) }),
      findings_few_from (r.kind ∷ earlier) (place + 1) rs,
    )

pub findings_few : (m : MessageTree) → length (findings_of m) ≤ length (flatten m)
findings_few m = findings_few_from [] 1 (flatten m)

pub finding_count-few : (ms : List MessageTree) → finding_count ms ≤ record_count ms
finding_count-few [] = omega arith
finding_count-few (m ∷ ms) = omega (arith, findings_few m, finding_count-few ms)

pub finding_count-one_more : (ms : List MessageTree) (m : MessageTree)
    → finding_count (ms ++ m ∷ []) ≡ finding_count ms + length (findings_of m)
finding_count-one_more [] m = omega arith
finding_count-one_more (x ∷ ms) m = omega (arith, finding_count-one_more ms m)

-- ---- while the records come

record_lines-more : (place : ℕ) (records : List RecordContent) (r : RecordContent)
    → record_lines place (records ++ r ∷ []) ≡ record_lines place records
    ++ record_line (place + length records) r.kind (length r.fields)
record_lines-more place [] r =
    append-nil (record_line place r.kind (length r.fields))
    ∙ ap (λ (k : ℕ). record_line k r.kind (length r.fields)) (omega arith)
record_lines-more place (x ∷ records) r =
    ap (λ (l : List ℕ). record_line place x.kind (length x.fields) ++ l) (record_lines-more (place + 1) records r)
    ∙ sym (append_assoc (record_line place x.kind (length x.fields)) (record_lines (place + 1) records)
    (record_line (place + 1 + length records) r.kind (length r.fields)))
    ∙ ap (λ (k : ℕ). (record_line place x.kind (length x.fields) ++ record_lines (place + 1) records)
    ++ record_line k r.kind (length r.fields)) (omega arith)

-- one record more, with the finding on it
pub checking_on :
    (records findings : List ℕ) (numbering next : Numbering) (found reported : ℕ) (messages : List MessageTree)
    (left : Option Begun)
    (entry : Borrowed RecordContent) (place : ℕ) (finding : Option Finding) (records' findings' : List ℕ) (found' : ℕ)
    → IsChecking records findings numbering found reported messages left
    → record_count messages + length (records_of left) < 2 ^ 44
    → ((rs : List RecordContent) → HasNumbered numbering rs → place ≡ capped (length rs + 1))
    → ((rs : List RecordContent) → HasNumbered numbering rs
    → findings_from [] 1 (rs ++ entry.content ∷ []) ≡ findings_from [] 1 rs ++ option_to_list finding)
    → ((rs : List RecordContent) → HasNumbered numbering rs → HasNumbered next (rs ++ entry.content ∷ []))
    → records' ≡ records ++ record_line place entry.content.kind (length entry.content.fields)
    → findings' ≡ findings ++ flat_map finding_line (option_to_list finding)
    → (found < 2 ^ 44 → found' ≡ found + length (option_to_list finding))
    → IsChecking records' findings' next found' reported messages (with_record left entry)
checking_on records findings numbering next found reported messages left entry place finding records' findings' found'
    is
    few placed on numbered lines reported_lines counts =
    let rs = records_of left in
    let r = entry.content in
    let more = on rs is.numbered in
    let here : place ≡ 1 + length rs = omega (arith, few, placed rs is.numbered) in
    let short : found < 2 ^ 44 = omega (arith, few, is.found_is, findings_few_from [] 1 rs) in
    record {
      record_lines_are =
          lines ∙ ap (λ (l : List ℕ). l ++ record_line place r.kind (length r.fields)) is.record_lines_are
          ∙ ap (λ (k : ℕ). record_lines 1 rs ++ record_line k r.kind (length r.fields)) here
          ∙ sym (record_lines-more 1 rs r);
      finding_lines_are =
          reported_lines ∙ ap (λ (l : List ℕ). l ++ flat_map finding_line (option_to_list finding)) is.finding_lines_are
          ∙ sym (flat_map-append finding_line (findings_from [] 1 rs) (option_to_list finding))
          ∙ ap (flat_map finding_line) (sym more);
      numbered = numbered rs is.numbered;
      found_is =
          counts short ∙ ap (λ (k : ℕ). k + length (option_to_list finding)) is.found_is
          ∙ sym (length-append (findings_from [] 1 rs) (option_to_list finding)) ∙ ap length (sym more);
      reported_is = is.reported_is;
    }

-- what waits of a whole message is its text
pub check_put :
    {records findings : List ℕ} {numbering : Numbering} {found reported : ℕ} (messages : List MessageTree)
    (m : MessageTree) (before number : ℕ) (P : Type 0) (a b : Out) (result : Result Unit ToolFault)
    → IsChecking records findings numbering found reported messages (whole_begun m) → before ≡ length messages
    → record_count (messages ++ m ∷ []) < 2 ^ 44 → (before < 2 ^ 44 → number ≡ before + 1)
    → IsPut a b result (message_line number ++ records ++ findings) → IfOk result (λ done. P)
    → LineSteps false P a b (check_message (length messages) m) result
check_put {records} {findings} messages m before number P a b result is counted few adds put represented =
    let short : before < 2 ^ 44 =
    omega (arith, counted, few, messages_few (messages ++ m ∷ []), length-append messages (m ∷ [])) in
    let number_is : number ≡ length messages + 1 = adds short ∙ ap (λ (n : ℕ). n + 1) counted in
    put_steps P a b (check_message (length messages) m) result
    (subst (λ (t : List ℕ). IsPut a b result t)
    (ap (λ (n : ℕ). message_line n ++ records ++ findings) number_is
    ∙ ap (λ (l : List ℕ). message_line (length messages + 1) ++ l ++ findings) is.record_lines_are
    ∙ ap (λ (l : List ℕ). message_line (length messages + 1) ++ record_lines 1 (flatten m) ++ l) is.finding_lines_are)
    put)
    represented

-- the line of what a report rejects, and the sums after it, are the last lines
pub check_last :
    (report : Report) (before reported : ℕ) (messages : List MessageTree) (fault : Option MessageFault)
    → report ≡ report_after check_writes messages fault → before ≡ length messages → reported ≡ finding_count messages
    → text_if_any (λ (it : Refused). refused_line it.message it.fault) report.refused ++ sums_line before reported
    ≡ check_writes.last messages fault
check_last report before reported messages None is counted found = rw (is, counted, found) refl
check_last report before reported messages (Some fault) is counted found = rw (is, counted, found) refl

-- the findings of one more message are reported
pub reported_more :
    (records findings : List ℕ) (numbering : Numbering) (found reported sum : ℕ) (messages : List MessageTree)
    (m : MessageTree)
    → IsChecking records findings numbering found reported messages (whole_begun m)
    → record_count (messages ++ m ∷ []) < 2 ^ 44
    → (reported + found < 2 ^ 63 → sum ≡ reported + found) → sum ≡ finding_count (messages ++ m ∷ [])
reported_more records findings numbering found reported sum messages m is few sum_is =
    let found_is : found ≡ length (findings_of m) = is.found_is in
    let short : reported + found < 2 ^ 63 =
    omega (
      arith,
      few,
      is.reported_is,
      found_is,
      findings_few m,
      finding_count-few messages,
      record_count-append messages
          (m ∷ []),
    ) in
    omega (arith, sum_is short, is.reported_is, found_is, finding_count-one_more messages m)

pub check_status-few : (messages : List MessageTree) → check_writes.status messages ≤ 1
check_status-few messages = by (nat_lt 0 (finding_count messages))
  where
    by : (some : Bool) → (if some then 1 else 0) ≤ 1
    by true = omega arith
    by false = omega arith
