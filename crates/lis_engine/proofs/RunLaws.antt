-- A run by its steps: what was read and what went out.
use Rattle.std.proofs.Common.{◌≡◌, ℕ, ◌+◌, ◌*◌, ◌≤◌, ◌<◌, Bool, true, false, List, [], ◌++◌, Option, None, Some, Ok}
use Rattle.std.proofs.Common.{Err, length, take, refl, sym, ◌∙◌, ap, subst, arith, append_assoc, append-nil}
use Rattle.std.proofs.Common.{length-append, take_all, rules, is_some}
use Rattle.std.proofs.lemmas.List.{take-append-le}
use Rattle.std.specs.declared.result.Result.{Result}
use Rattle.std.specs.Prelude.{IsTrue, ◌↔◌, ⊤}
use Rattle.std.specs.Io.KnownBytes.{Appends, Consumes, IsAtEnd, Keeps}
use Rattle.lis_engine.specs.declared.fault.ToolFault.{ToolFault}
use Rattle.lis_engine.specs.declared.fault.ToolFault.TheVariants.{CaptureLine, Read, Write, OutOfMemory, TooManyReads}
use Rattle.lis_engine.specs.declared.report.Report.{Report}
use Rattle.lis_engine.specs.Outcome.{Outcome, whole, going}
use Rattle.lis_engine.specs.Output.{Broke, FailedIn, IsWorking, Out, WentOn, WentOut}
use Rattle.lis_engine.specs.inside.Output.{IsUnused, PartWentOut, SentOn, Unsent}
use Rattle.lis_engine.specs.Runs.{EachGave, IsFinished, WroteOutcome, Ran, StopsBy}
use Rattle.lis_engine.specs.Steps.{Ends, Fails, Halts, Puts, Steps, ended_by}
use Rattle.lis_engine.specs.inside.Steps.{IsHalted, had_failed, is_sent, is_unsent}
use Rattle.lis_engine.specs.declared.machine.Stop.{Stop}
use Rattle.lis_engine.specs.declared.machine.Stop.TheVariants.{Fault, Refused}
use Rattle.lis_engine.proofs.OutputLaws.{put_on}
use Rattle.lis_engine.proofs.PutLaws.{part_then}

pub consumes_none : (a : Option (List ℕ)) → Consumes a a []
consumes_none None = tt
consumes_none (Some xs) = refl

pub consumes_kept : (a b c : Option (List ℕ)) (xs : List ℕ) → Consumes a b xs → Keeps b c → Consumes a c xs
consumes_kept None b c xs read kept = tt
consumes_kept (Some ws) None c xs read kept = absurd read
consumes_kept (Some ws) (Some vs) None xs read kept = kept
consumes_kept (Some ws) (Some vs) (Some us) xs read kept = read ∙ ap (λ (l : List ℕ). xs ++ l) (sym kept)

pub consumes_then : (a b c : Option (List ℕ)) (xs ys : List ℕ) → Consumes a b xs → Consumes b c ys
    → Consumes a c (xs ++ ys)
consumes_then None b c xs ys first second = tt
consumes_then (Some ws) None c xs ys first second = absurd first
consumes_then (Some ws) (Some vs) None xs ys first second = second
consumes_then (Some ws) (Some vs) (Some us) xs ys first second =
    first ∙ ap (λ (l : List ℕ). xs ++ l) second ∙ sym (append_assoc xs ys us)

-- what was read so far, and the text for it, which was put
pub record IsSoFar (represents : List ℕ → List ℕ → Type 0) (left_old left : Option (List ℕ)) (start here : Out)
    (turn : ℕ) : Type 0 where
  pub bytes : List ℕ
  pub text : List ℕ
  pub represented : represents bytes text
  pub read : Consumes left_old left bytes
  pub wrote : WentOn start here text
  pub short : length bytes ≤ 4096 * turn
  pub each_gave : turn ≤ length bytes

-- what a run with this answer may have put out
pub record HasAnswered {F : Type 0} (memory : Bool) (means : List ℕ → Bool → Outcome F → Type 0) (given : List ℕ)
    (ended : Bool)
    (a b : Option (List ℕ)) (result : Result (Report F) ToolFault) : Type 0 where
  pub outcome : Outcome F
  pub meant : means given ended outcome
  pub wrote : WroteOutcome memory result outcome a b

-- where nothing waits, the text is out
pub settled : (start here : Out) (text : List ℕ) → IsUnused start → here.waits ≡ [] → WentOn start here text
    → Appends start.taken here.taken text
settled start here text unused empty wrote =
    let front_is : wrote.front ≡ text =
    sym (append-nil wrote.front) ∙ ap (λ (t : List ℕ). wrote.front ++ t) (sym empty) ∙ sym wrote.joined
    ∙ ap (λ (t : List ℕ). t ++ text) unused.empty in
    let taken : Appends start.taken here.taken (take (length text) text) =
    subst (λ (t : List ℕ). Appends start.taken here.taken (take (length t) t)) front_is wrote.went.taken in
    rw (take_all (length text) text (omega arith)) at taken

-- what went out of a text went out of a longer one
went_longer : (a b : Option (List ℕ)) (before after : ℕ) (text rest : List ℕ) (count : ℕ)
    → WentOut a b before after text count → WentOut a b before after (text ++ rest) count
went_longer a b before after text rest count went = record {
  within = omega (arith, went.within, length-append text rest);
  taken = rw (take-append-le count text rest went.within) went.taken;
  counted = went.counted;
}

module _ {F : Type 0} (memory : Bool) (means : List ℕ → Bool → Outcome F → Type 0) (given : List ℕ) (ended : Bool)
    (start : Out) (unused : IsUnused start) where
  -- the sink failed in a part of the outcome's text
  part_of_whole :
      (new : Out) (fault : ToolFault) (text rest : List ℕ) (o : Outcome F) → means given ended o
      → whole o ≡ text ++ rest
      → Broke start new fault text → HasAnswered memory means given ended start.taken new.taken (Err fault)
  part_of_whole new (Write written) text rest o begun joined broke =
      let part : FailedIn start.taken new.taken 0 (Write written) text =
      rw (unused.empty, unused.none) at broke.part in
      record {
        outcome = o;
        meant = begun;
        wrote = (
          part.0,
          subst (λ (t : List ℕ). WentOut start.taken new.taken 0 written t part.0) (sym joined)
              (went_longer start.taken new.taken 0 written text rest part.0 part.2),
        );
      }
  part_of_whole new (CaptureLine line) text rest o begun joined broke = absurd broke.part
  part_of_whole new Read text rest o begun joined broke = absurd broke.part
  part_of_whole new OutOfMemory text rest o begun joined broke = absurd broke.part
  part_of_whole new TooManyReads text rest o begun joined broke = absurd broke.part

  -- the sink failed in a step
  fails_reported :
      (there new : Out) (text : List ℕ) (fault : ToolFault) → WentOn start there text
      → Fails (means given ended) there new text fault
      → HasAnswered memory means given ended start.taken new.taken (Err fault)
  fails_reported there new text fault wrote fails =
      part_of_whole new fault (text ++ fails.more) fails.rest fails.outcome fails.meant fails.joined
      (put_on start there new (Err fault) text fails.more wrote fails.broke)

  -- the text so far is a part of the outcome's, and could not be sent on
  pub unsent_reported :
      (mid new : Out) (fault : ToolFault) (text rest : List ℕ) (o : Outcome F) → means given ended o
      → whole o ≡ text ++ rest
      → WentOn start mid text → Unsent mid new fault
      → HasAnswered memory means given ended start.taken new.taken (Err fault)
  unsent_reported mid new (Write written) text rest o begun joined wrote unsent =
      let went : WentOut start.taken new.taken start.written written (wrote.front ++ mid.waits)
      (length wrote.front + unsent.part.0) =
      part_then start.taken mid.taken new.taken start.written mid.written written unsent.part.0 wrote.front mid.waits
      wrote.went unsent.part.1 in
      let all : WentOut start.taken new.taken 0 written text (length wrote.front + unsent.part.0) =
      rw (← wrote.joined, unused.empty, unused.none) at went in
      record {
        outcome = o;
        meant = begun;
        wrote = (
          length wrote.front + unsent.part.0,
          subst (λ (t : List ℕ). WentOut start.taken new.taken 0 written t (length wrote.front + unsent.part.0))
              (sym joined)
              (went_longer start.taken new.taken 0 written text rest (length wrote.front + unsent.part.0) all),
        );
      }
  unsent_reported mid new (CaptureLine line) text rest o begun joined wrote unsent = absurd unsent.part
  unsent_reported mid new Read text rest o begun joined wrote unsent = absurd unsent.part
  unsent_reported mid new OutOfMemory text rest o begun joined wrote unsent = absurd unsent.part
  unsent_reported mid new TooManyReads text rest o begun joined wrote unsent = absurd unsent.part

  -- the run halted, all of its text is out
  sent_reported :
      (c : Option (List ℕ)) (text : List ℕ) (result : Result (Report F) ToolFault)
      → Halts memory (means given ended) text result
      → Appends start.taken c text → HasAnswered memory means given ended start.taken c result
  sent_reported c text (Ok report) (o, meant, halt, joined) taken = record {
    outcome = o;
    meant = meant;
    wrote = (halt, subst (λ (t : List ℕ). Appends start.taken c t) (sym joined) taken);
  }
  sent_reported c text (Err (CaptureLine line)) (o, meant, halt, joined) taken = record {
    outcome = o;
    meant = meant;
    wrote = (halt, subst (λ (t : List ℕ). Appends start.taken c t) (sym joined) taken);
  }
  sent_reported c text (Err OutOfMemory) (o, begun, rest, joined, wants) taken =
      record {
        outcome = o;
        meant = begun;
        wrote = (
          wants,
          length text,
          rw joined (omega (arith, length-append text rest)),
          rw joined (rw (take-append-le (length text) text rest (omega arith))
              (rw (take_all (length text) text (omega arith)) taken)),
        );
      }
  sent_reported c text (Err Read) halts taken = absurd halts
  sent_reported c text (Err (Write written)) halts taken = absurd halts
  sent_reported c text (Err TooManyReads) halts taken = absurd halts

  -- the outcome that a halted run's text begins
  record Part (text : List ℕ) : Type 0 where
    pub outcome : Outcome F
    pub begun : means given ended outcome
    pub rest : List ℕ
    pub joined : whole outcome ≡ text ++ rest

  halts_part : (text : List ℕ) (result : Result (Report F) ToolFault) → Halts memory (means given ended) text result
      → Part text
  halts_part text (Ok report) (o, meant, halt, joined) =
      record { outcome = o; begun = meant; rest = []; joined = joined ∙ sym (append-nil text) }
  halts_part text (Err (CaptureLine line)) (o, meant, halt, joined) =
      record { outcome = o; begun = meant; rest = o.closing; joined = ap (λ (t : List ℕ). t ++ o.closing) joined }
  halts_part text (Err OutOfMemory) (o, begun, rest, joined, wants) =
      record {
        outcome = o;
        begun = begun;
        rest = rest ++ o.closing;
        joined =
            ap (λ (t : List ℕ). t ++ o.closing) joined ∙ append_assoc text rest o.closing;
      }
  halts_part text (Err Read) halts = absurd halts
  halts_part text (Err (Write written)) halts = absurd halts
  halts_part text (Err TooManyReads) halts = absurd halts

  no_write : (all : List ℕ) (answer : Result (Report F) ToolFault) (written : ℕ) → answer ≡ Err (Write written)
      → Halts memory (means given ended) all answer → ⊥
  no_write all answer written is halts =
      subst (λ (r : Result (Report F) ToolFault). Halts memory (means given ended) all r) is halts

  -- a command ended after it had put its text
  halted_puts :
      (there out new : Out) (text : List ℕ) (answer result : Result (Report F) ToolFault) → WentOn start there text
      → Puts (λ all. Halts memory (means given ended) all answer) there out text → IsHalted answer out new result
      → HasAnswered memory means given ended start.taken new.taken result
  halted_puts there out new text answer result wrote puts (had_failed written is answered same) =
      absurd (no_write (text ++ puts.more) answer written is puts.following)
  halted_puts there out new text answer result wrote puts (is_sent working answered sent_on) =
      let put = put_on start there out (Ok tt) text puts.more wrote puts.put in
      let all = put_on start out new (Ok tt) (text ++ puts.more) [] put sent_on.went in
      let whole : WentOn start new (text ++ puts.more) =
      subst (λ (t : List ℕ). WentOn start new t) (append-nil (text ++ puts.more)) all in
      subst (λ (r : Result (Report F) ToolFault). HasAnswered memory means given ended start.taken new.taken r)
      (sym answered)
      (sent_reported new.taken (text ++ puts.more) answer puts.following
      (settled start new (text ++ puts.more) unused sent_on.empty whole))
  halted_puts there out new text answer result wrote puts (is_unsent fault working answered unsent_on) =
      let put = put_on start there out (Ok tt) text puts.more wrote puts.put in
      let part = halts_part (text ++ puts.more) answer puts.following in
      subst (λ (r : Result (Report F) ToolFault). HasAnswered memory means given ended start.taken new.taken r)
      (sym answered)
      (unsent_reported out new fault (text ++ puts.more) part.rest part.outcome part.begun part.joined put unsent_on)

  -- or its sink failed
  halted_fails :
      (there out new : Out) (text : List ℕ) (written : ℕ) (result : Result (Report F) ToolFault)
      → WentOn start there text
      → Fails (means given ended) there out text (Write written) → IsHalted (Err (Write written)) out new result
      → HasAnswered memory means given ended start.taken new.taken result
  halted_fails there out new text written result wrote fails (had_failed count is answered same) =
      let count_is : Err (Write written) ≡ result = is ∙ sym answered in
      subst (λ (r : Result (Report F) ToolFault). HasAnswered memory means given ended start.taken new.taken r) count_is
      (subst (λ (o : Out). HasAnswered memory means given ended start.taken o.taken (Err (Write written))) (sym same)
      (fails_reported there out text (Write written) wrote fails))
  halted_fails there out new text written result wrote fails (is_sent working answered sent_on) =
      absurd (not_both (sym working.works ∙ fails.broke.failed))
    where
      not_both : false ≡ true → ⊥
      not_both e = cc
  halted_fails there out new text written result wrote fails (is_unsent fault working answered unsent_on) =
      absurd (not_both (sym working.works ∙ fails.broke.failed))
    where
      not_both : false ≡ true → ⊥
      not_both e = cc

  halted_reported :
      (there out new : Out) (text : List ℕ) (answer result : Result (Report F) ToolFault) → WentOn start there text
      → Ends memory (means given ended) there out text answer → IsHalted answer out new result
      → HasAnswered memory means given ended start.taken new.taken result
  halted_reported there out new text (Ok report) result wrote ends halted =
      halted_puts there out new text (Ok report) result wrote ends halted
  halted_reported there out new text (Err (Write written)) result wrote ends halted =
      halted_fails there out new text written result wrote ends halted
  halted_reported there out new text (Err (CaptureLine line)) result wrote ends halted =
      halted_puts there out new text (Err (CaptureLine line)) result wrote ends halted
  halted_reported there out new text (Err OutOfMemory) result wrote ends halted =
      halted_puts there out new text (Err OutOfMemory) result wrote ends halted
  halted_reported there out new text (Err Read) result wrote ends halted = absurd ends
  halted_reported there out new text (Err TooManyReads) result wrote ends halted = absurd ends

-- what a run reported, with what it read
reported_ran :
    {F : Type 0} → (memory : Bool) (means : List ℕ → Bool → Outcome F → Type 0) (given : List ℕ) (ended : Bool)
    (left_old left_new a b : Option (List ℕ)) (result : Result (Report F) ToolFault)
    → Consumes left_old left_new given → HasAnswered memory means given ended a b result
    → Ran memory means left_old left_new a b ended result
reported_ran memory means given ended left_old left_new a b result read reported =
    record { given = given; read = read; outcome = reported.outcome; meant = reported.meant; wrote = reported.wrote }

-- a read that gave bytes reported no end
pub no_end : (ended : Bool) (count : ℕ) → (count ≡ 0 → ⊥)
    → IsTrue ended ↔ (◌≡◌ {A = Result ℕ ToolFault} (Ok count) (Ok 0)) → ended ≡ false
no_end false count some end = refl
no_end true count some end = absurd (some (count_of (end.0 refl)))
  where
    count_of : {a b : ℕ} → ◌≡◌ {A = Result ℕ ToolFault} (Ok a) (Ok b) → a ≡ b
    count_of e = cc

-- a read that gave none reported the end
pub is_end : (ended : Bool) (count : ℕ) → count ≡ 0 → IsTrue ended ↔ (◌≡◌ {A = Result ℕ ToolFault} (Ok count) (Ok 0))
    → ended ≡ true
is_end true count none end = refl
is_end false count none end = absurd (no (end.1 (ap (λ (n : ℕ). let r : Result ℕ ToolFault = Ok n in r) none)))
  where
    no : IsTrue false → ⊥
    no h = search rules

pub consumes_end :
    (a b c : Option (List ℕ)) (xs ys : List ℕ) (count : ℕ) → Consumes a b xs → Consumes b c (take count ys)
    → count ≡ 0 → Consumes a c xs
consumes_end a b c xs ys count first second none =
    let last : Consumes b c [] = subst (λ (n : ℕ). Consumes b c (take n ys)) none second in
    subst (λ (l : List ℕ). Consumes a c l) (append-nil xs) (consumes_then a b c xs [] first last)

-- a read that failed reported no end
pub failed_not_ended : {f : ToolFault} (ended : Bool) → IsTrue ended ↔ (◌≡◌ {A = Result ℕ ToolFault} (Err f) (Ok 0))
    → ended ≡ false
failed_not_ended false end = refl
failed_not_ended true end = absurd (not_ok (end.0 refl))
  where
    not_ok : {f : ToolFault} → ◌≡◌ {A = Result ℕ ToolFault} (Err f) (Ok 0) → ⊥
    not_ok e = cc

-- a run that ends in a report is finished
abbrev pub EndsWell : {F : Type 0} → (refuses : Bool) → Result (Report F) ToolFault → Bool → Type 0
EndsWell refuses (Ok report) ended = IsFinished refuses report.refused ended
EndsWell refuses (Err fault) ended = ⊤

finished_at_end : {F : Type 0} → (refuses : Bool) (refused : Option F) (ended : Bool) → ended ≡ true
    → IsFinished refuses refused ended
finished_at_end false refused ended is = is
finished_at_end true None ended is = is
finished_at_end true (Some refused) ended is = tt

pub well_at_end : {F : Type 0} → (refuses : Bool) (result : Result (Report F) ToolFault) (ended : Bool) → ended ≡ true
    → EndsWell refuses result ended
well_at_end refuses (Ok report) ended is = finished_at_end refuses report.refused ended is
well_at_end refuses (Err fault) ended is = tt

finished_early : {F : Type 0} → (refused : Option F) (ended : Bool) → is_some refused ≡ true → IsFinished true refused
    ended
finished_early (Some refused) ended is = tt
finished_early None ended is = cc

-- a step that stopped the run was a last step, and the run ends well after it
pub step_ends :
    {F : Type 0} → (refuses memory : Bool) (represents : List ℕ → Type 0) (means : Outcome F → Type 0) (old new : Out)
    (text : List ℕ) (stop : Stop F) → Steps refuses memory represents means old new text (Err stop)
    → Ends memory means old new text (ended_by stop)
step_ends refuses memory represents means old new text (Fault fault) step = step
step_ends refuses memory represents means old new text (Refused report) step = step.0

pub step_ends_well :
    {F : Type 0} → (refuses memory : Bool) (represents : List ℕ → Type 0) (means : Outcome F → Type 0) (old new : Out)
    (text : List ℕ) (stop : Stop F) (ended : Bool) → Steps refuses memory represents means old new text (Err stop)
    → EndsWell refuses (ended_by stop) ended
step_ends_well refuses memory represents means old new text (Fault fault) ended step = tt
step_ends_well refuses memory represents means old new text (Refused report) ended step =
    subst (λ (t : Bool). IsFinished t report.refused ended) (sym step.1)
    (finished_early report.refused ended step.2)

-- the source reported no end, so nothing need be shown of it
pub unended : {P : Type 0} {ended : Bool} → ended ≡ false → ended ≡ true → P
unended none is = absurd (no (sym none ∙ is))
  where
    no : false ≡ true → ⊥
    no e = cc

-- a fault of the sink
abbrev pub IsWrite : ToolFault → Type 0
IsWrite (Write written) = ⊤
IsWrite (CaptureLine line) = ⊥
IsWrite Read = ⊥
IsWrite OutOfMemory = ⊥
IsWrite TooManyReads = ⊥

pub part_failed : (a b : Option (List ℕ)) (before : ℕ) (fault : ToolFault) (text : List ℕ)
    → PartWentOut a b before fault text → IsWrite fault
part_failed a b before (Write written) text part = tt
part_failed a b before (CaptureLine line) text part = part
part_failed a b before Read text part = part
part_failed a b before OutOfMemory text part = part
part_failed a b before TooManyReads text part = part

-- how a run stops whose sink failed
pub write_stops :
    {F : Type 0} {refuses closes : Bool} {fault : ToolFault} {left : Option (List ℕ)} {ended source_failed : Bool}
    {made : ℕ}
    {taken sent : Option (List ℕ)} {sink_failed : Bool} {reads : ℕ} → IsWrite fault → (closes ≡ false → ended ≡ false)
    → source_failed ≡ false → sink_failed ≡ true → (ended ≡ true → IsAtEnd left) → made ≤ reads
    → StopsBy {F = F} refuses closes (Err fault) left ended source_failed made taken sent sink_failed reads
write_stops {fault = Write written} is early fine failed all_read bound =
    record { stopped = (early, fine, failed); sent_on = tt; all_read = all_read; bounded = bound }
write_stops {fault = CaptureLine line} is early fine failed all_read bound = absurd is
write_stops {fault = Read} is early fine failed all_read bound = absurd is
write_stops {fault = OutOfMemory} is early fine failed all_read bound = absurd is
write_stops {fault = TooManyReads} is early fine failed all_read bound = absurd is

-- how a run stops whose command ended, and which was sent on
sent_stops :
    {F : Type 0} → (refuses closes memory : Bool) (means : Outcome F → Type 0) (there out new : Out) (text : List ℕ)
    (answer : Result (Report F) ToolFault) (left : Option (List ℕ)) (ended source_failed : Bool) (made reads : ℕ)
    → Ends memory means there out text answer → IsWorking out → SentOn out new → EndsWell refuses answer ended
    → source_failed ≡ false → (ended ≡ true → IsAtEnd left) → made ≤ reads
    → StopsBy refuses closes answer left ended source_failed made new.taken new.sent new.failed reads
sent_stops refuses closes memory means there out new text (Ok report) left ended source_failed made reads ends works on
    well fine all_read bound = record {
      stopped = (well, fine, on.went.working.works);
      sent_on = on.sent;
      all_read = all_read;
      bounded = bound;
    }
sent_stops refuses closes memory means there out new text (Err (CaptureLine line)) left ended source_failed made reads
    ends works on well fine all_read bound =
    record { stopped = (fine, on.went.working.works); sent_on = on.sent; all_read = all_read; bounded = bound }
sent_stops refuses closes memory means there out new text (Err OutOfMemory) left ended source_failed made reads ends
    works on well fine all_read bound =
    record { stopped = (fine, on.went.working.works); sent_on = on.sent; all_read = all_read; bounded = bound }
sent_stops refuses closes memory means there out new text (Err (Write written)) left ended source_failed made reads ends
    works on well fine all_read bound = absurd (not_both (sym works.works ∙ ends.broke.failed))
  where
    not_both : false ≡ true → ⊥
    not_both e = cc
sent_stops refuses closes memory means there out new text (Err Read) left ended source_failed made reads ends works on
    well fine all_read bound = absurd ends
sent_stops refuses closes memory means there out new text (Err TooManyReads) left ended source_failed made reads ends
    works on well fine all_read bound = absurd ends

broken : {F : Type 0} → (memory : Bool) (means : Outcome F → Type 0) (there out : Out) (text : List ℕ) (written : ℕ)
    (answer : Result (Report F) ToolFault) → answer ≡ Err (Write written) → Ends memory means there out text answer
    → out.failed ≡ true
broken memory means there out text written answer is ends =
    let fails : Fails means there out text (Write written) = rw is at ends in fails.broke.failed

pub halted_stops :
    {F : Type 0} → (refuses closes memory : Bool) (means : Outcome F → Type 0) (there out new : Out) (text : List ℕ)
    (answer result : Result (Report F) ToolFault) (left : Option (List ℕ)) (ended source_failed : Bool)
    (made reads : ℕ)
    → Ends memory means there out text answer → IsHalted answer out new result → EndsWell refuses answer ended
    → (closes ≡ false → new.failed ≡ true → ended ≡ false)
    → source_failed ≡ false → (ended ≡ true → IsAtEnd left) → made ≤ reads
    → StopsBy refuses closes result left ended source_failed made new.taken new.sent new.failed reads
halted_stops {F} refuses closes memory means there out new text answer result left ended source_failed made reads ends
    (had_failed written is answered same) well early fine all_read bound =
    let failed : new.failed ≡ true =
    ap (λ (o : Out). o.failed) same ∙ broken memory means there out text written answer is ends in
    subst (λ (r : Result (Report F) ToolFault).
    StopsBy refuses closes r left ended source_failed made new.taken new.sent new.failed reads) (sym answered)
    (write_stops {fault = Write written} tt (λ silent. early silent failed) fine failed all_read bound)
halted_stops {F} refuses closes memory means there out new text answer result left ended source_failed made reads ends
    (is_sent working answered on) well early fine all_read bound =
    subst (λ (r : Result (Report F) ToolFault).
    StopsBy refuses closes r left ended source_failed made new.taken new.sent new.failed reads) (sym answered)
    (sent_stops refuses closes memory means there out new text answer left ended source_failed made reads ends working
    on well fine all_read bound)
halted_stops {F} refuses closes memory means there out new text answer result left ended source_failed made reads ends
    (is_unsent fault working answered on) well early fine all_read bound =
    subst (λ (r : Result (Report F) ToolFault).
    StopsBy refuses closes r left ended source_failed made new.taken new.sent new.failed reads) (sym answered)
    (write_stops (part_failed out.taken new.taken out.written fault out.waits on.part)
    (λ silent. early silent on.failed) fine on.failed all_read bound)

-- a read that reported the end waited
pub waited : (may_wait : Bool) (count : ℕ) → count ≡ 0 → (may_wait ≡ false → 0 < count) → may_wait ≡ true
waited true count none ready = refl
waited false count none ready = absurd (nothing (ready refl))
  where
    nothing : 0 < count → ⊥
    nothing some = omega (arith, some, none)

-- so did a read that failed
pub failed_waited : (may_wait : Bool) → (may_wait ≡ false → ⊥) → may_wait ≡ true
failed_waited true ready = refl
failed_waited false ready = absurd (ready refl)

-- ---- how a run ends, after what was read so far

module _
    {represents : List ℕ → List ℕ → Type 0} {left_old left : Option (List ℕ)} {start here : Out} {turn : ℕ}
    (unused : IsUnused start) (s : IsSoFar represents left_old left start here turn) where
  -- each read gave a byte
  pub gave_so_far : {made : ℕ} → made ≤ turn → EachGave left_old left made
  gave_so_far bound = (s.bytes, s.read, omega (arith, s.each_gave, bound))

  -- each but the last did
  pub gave : (left_new : Option (List ℕ)) (more : List ℕ) {made : ℕ} → Consumes left left_new more → made ≤ turn + 1
      → EachGave left_old left_new made
  gave left_new more read bound = (
    s.bytes ++ more,
    consumes_then left_old left left_new s.bytes more s.read read,
    omega (arith, s.each_gave, bound, length-append s.bytes more),
  )

  -- these are all the bytes that were read, and the text for those before the last read was put
  pub record IsRead (given : List ℕ) (reported_end ended : Bool) (left_new : Option (List ℕ)) (there : Out) : Type 0
    where
      pub read : Consumes left_old left_new given
      pub ended_is : ended ≡ reported_end
      pub wrote : WentOn start there s.text

  pub wrote_there : (there : Out) → WentOn here there [] → WentOn start there s.text
  wrote_there there settled =
      subst (λ (t : List ℕ). WentOn start there t) (append-nil s.text)
      (put_on start here there (Ok tt) s.text [] s.wrote settled)

  module _
      {count : ℕ} {ended : Bool} {left_new : Option (List ℕ)} (ys : List ℕ) {there : Out}
      (gives : Consumes left left_new (take count ys))
      (reports : IsTrue ended ↔ (◌≡◌ {A = Result ℕ ToolFault} (Ok count) (Ok 0)))
      (settled : WentOn here there []) where
    -- the last read reported the end
    pub read_end : count ≡ 0 → IsRead s.bytes true ended left_new there
    read_end none = record {
      read = consumes_end left_old left left_new s.bytes ys count s.read gives none;
      ended_is = is_end ended count none reports;
      wrote = wrote_there there settled;
    }

    -- it gave more
    pub read_more : (more : List ℕ) → more ≡ take count ys → (count ≡ 0 → ⊥)
        → IsRead (s.bytes ++ more) false ended left_new there
    read_more more is some =
        record {
          read = consumes_then left_old left left_new s.bytes more s.read
              (subst (λ (l : List ℕ). Consumes left left_new l) (sym is) gives);
          ended_is = no_end ended count some reports;
          wrote = wrote_there there settled;
        }

  module _ {F : Type 0} (memory : Bool) (means : List ℕ → Bool → Outcome F → Type 0) where
    -- what waits could not go out
    pub unsent_ran :
        {ended : Bool} (new : Out) (fault : ToolFault) → ended ≡ false → means s.bytes false (going s.text)
        → Unsent here new fault → Ran memory means left_old left start.taken new.taken ended (Err fault)
    unsent_ran {ended} new fault goes_on meant unsent =
        reported_ran memory means s.bytes ended left_old left start.taken new.taken (Err fault) s.read
        (subst (λ (e : Bool). HasAnswered memory means s.bytes e start.taken new.taken (Err fault)) (sym goes_on)
        (unsent_reported memory means s.bytes false start unused here new fault s.text [] (going s.text) meant refl
        s.wrote unsent))

    -- the last step ended the run
    pub halted_ran :
        {given : List ℕ} {reported_end ended : Bool} {left_new : Option (List ℕ)} {there : Out}
        (is : IsRead given reported_end ended left_new there) (out new : Out)
        (answer result : Result (Report F) ToolFault)
        → Ends memory (means given reported_end) there out s.text answer → IsHalted answer out new result
        → Ran memory means left_old left_new start.taken new.taken ended result
    halted_ran {given} {reported_end} {ended} {left_new} {there} is out new answer result ends halted =
        reported_ran memory means given ended left_old left_new start.taken new.taken result is.read
        (subst (λ (t : Bool). HasAnswered memory means given t start.taken new.taken result) (sym is.ended_is)
        (halted_reported memory means given reported_end start unused there out new s.text answer result is.wrote ends
        halted))
