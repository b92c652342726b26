-- A run over record text, reported by its messages.
use Rattle.std.proofs.Common.{◌≡◌, ℕ, ◌≤◌, Bool, true, false, List, ◌++◌, Option, None, Some, Ok, Err, inl, inr}
use Rattle.std.proofs.Common.{length, take, refl, sym, ◌∙◌, ap, subst, arith, append_assoc, append-nil, length-append}
use Rattle.std.proofs.Common.{IfOk}
use Rattle.std.proofs.lemmas.List.{take-append-le}
use Rattle.std.specs.declared.result.Result.{Result}
use Rattle.std.specs.Io.KnownBytes.{Appends}
use Rattle.lis_tree.specs.Begun.{Begun}
use Rattle.lis_record_values.specs.declared.faults.MessageFault.{MessageFault}
use Rattle.lis_tree.specs.Tree.{MessageTree}
use Rattle.lis_message.specs.Feeding.{answer_at_end}
use Rattle.lis_message.specs.Stream.{IsSplit, IsReadFrom}
use Rattle.lis_message.proofs.EveryStream.{goes_on as reads_more}
use Rattle.lis_engine.specs.declared.fault.ToolFault.{ToolFault}
use Rattle.lis_engine.specs.declared.fault.ToolFault.TheVariants.{CaptureLine, Read, Write, OutOfMemory, TooManyReads}
use Rattle.lis_report.specs.Answers.{Report}
use Rattle.lis_engine.specs.Outcome.{going, whole}
use Rattle.lis_report.specs.Answers.{Outcome}
use Rattle.lis_engine.specs.Output.{WentOut}
use Rattle.lis_engine.specs.Runs.{HasRun, KnownPorts, WroteOutcome}
use Rattle.lis_record_commands.specs.MessageRuns.{MessageAnswer, MessagesRan}
use Rattle.lis_record_commands.specs.Messages.{MessageWrites, HasOutcome, complete, ended_early, goes_on, messages_text}
use Rattle.lis_record_commands.specs.Messages.{whole_outcome, refused, report_after}
use Rattle.lis_record_commands.specs.Messages.{RunGives, IsStarved}
use Rattle.lis_record_commands.proofs.MessageLaws.{split_whole, messages_text-append, nothing_left}

-- ---- a prefix of the bytes, and all of them

-- what all of the bytes give, where this text is that of a prefix of them
pub record ReadsAfter (w : MessageWrites) (bytes : List ℕ) (ended : Bool) (text : List ℕ) : Type 0 where
  pub outcome : Outcome
  pub reads : HasOutcome w bytes ended outcome
  pub rest : List ℕ
  pub text_is : outcome.text ≡ text ++ rest

module _ (w : MessageWrites) (bytes : List ℕ) (messages more : List MessageTree) where
  longer : messages_text w 0 (messages ++ more) ≡ messages_text w 0 messages ++ messages_text w (length messages) more
  longer = messages_text-append w 0 messages more
      ∙ ap (λ (k : ℕ). messages_text w 0 messages ++ messages_text w k more) (omega arith)

  at_the_end :
      (left : Option Begun) (held : List ℕ) → IsSplit bytes (messages ++ more) left held
      → (r : Result (Unit {0}) MessageFault) → answer_at_end left held ≡ r
      → ReadsAfter w bytes true (messages_text w 0 messages)
  at_the_end left held split (Ok done) is =
      let nothing = nothing_left left held is in
      record {
        outcome = whole_outcome w (messages ++ more) None;
        reads = complete (messages ++ more) (split_whole bytes (messages ++ more) left held split nothing.0 nothing.1)
            refl refl;
        rest = messages_text w (length messages) more;
        text_is = longer;
      }
  at_the_end left held split (Err fault) is =
      record {
        outcome = whole_outcome w (messages ++ more) (Some fault);
        reads = ended_early (messages ++ more) fault (record { left = left; held = held; split = split; why = is }) refl
            refl;
        rest = messages_text w (length messages) more;
        text_is = longer;
      }

  split_following : (ended : Bool) (left : Option Begun) (held : List ℕ) → IsSplit bytes (messages ++ more) left held
      → ReadsAfter w bytes ended (messages_text w 0 messages)
  split_following true left held split = at_the_end left held split (answer_at_end left held) refl
  split_following false left held split =
      record {
        outcome = going (messages_text w 0 (messages ++ more));
        reads = goes_on (messages ++ more) left held split refl refl;
        rest = messages_text w (length messages) more;
        text_is = longer;
      }

pub read_after : (w : MessageWrites) (bytes : List ℕ) (ended : Bool) (messages : List MessageTree)
    → IsReadFrom bytes messages → ReadsAfter w bytes ended (messages_text w 0 messages)
read_after w bytes ended messages (more, inl split) = split_following w bytes messages more ended split.0 split.1
    split.2
read_after w bytes ended messages (more, inr stop) =
    record {
      outcome = whole_outcome w (messages ++ more) (Some stop.0);
      reads = refused (messages ++ more) stop.0 stop.1 refl;
      rest = messages_text w (length messages) more;
      text_is = longer w bytes messages more;
    }

starved_after : (w : MessageWrites) (bytes : List ℕ) (ended : Bool) (o : Outcome) (s : IsStarved w bytes o)
    → ReadsAfter w bytes ended (messages_text w 0 s.messages)
starved_after w bytes ended o s =
    read_after w bytes ended s.messages
    (subst (λ (b : List ℕ). IsReadFrom b s.messages) (sym s.joined)
    (reads_more s.more s.front s.messages s.left s.held s.split))

-- what went out of a text went out of a longer one
went_out_longer :
    (old new : Option (List ℕ)) (before after count : ℕ) (xs ys : List ℕ) → WentOut old new before after xs count
    → WentOut old new before after (xs ++ ys) count
went_out_longer old new before after count xs ys went =
    record {
      within = omega (arith, went.within, length-append xs ys);
      taken = rw (take-append-le count xs ys went.within) went.taken;
      counted = went.counted;
    }

-- ---- the answer

module _ (w : MessageWrites) (given : List ℕ) (ended : Bool) (old new : Option (List ℕ)) where
  of_reads : (o : Outcome) → HasOutcome w given ended o → (result : Result Report ToolFault)
      → WroteOutcome true result o old new
      → MessageAnswer w given ended result old new
  of_reads o reads (Ok report) wrote = (o, reads, wrote.0, wrote.1)
  of_reads o reads (Err Read) wrote = (o, reads, wrote.0, wrote.1)
  of_reads o reads (Err TooManyReads) wrote = (o, reads, wrote.0, wrote.1)
  of_reads o reads (Err (Write written)) wrote = (o, reads, wrote.0, wrote.1)
  of_reads o reads (Err OutOfMemory) wrote = (o, reads, wrote.1, wrote.2, wrote.3)
  of_reads o (refused messages fault is same) (Err (CaptureLine line)) wrote =
      no_line (subst (λ (x : Outcome). x.halt ≡ Some (Err (CaptureLine line))) same wrote.0)
    where
      no_line : ◌≡◌ {A = Option (Result Report ToolFault)} (Some (Ok (report_after w messages (Some fault))))
          (Some (Err (CaptureLine line))) → ⊥
      no_line e = cc
  of_reads o (goes_on messages left held split on same) (Err (CaptureLine line)) wrote =
      no_line (subst (λ (x : Outcome). x.halt ≡ Some (Err (CaptureLine line))) same wrote.0)
    where
      no_line : ◌≡◌ {A = Option (Result Report ToolFault)} None (Some (Err (CaptureLine line))) → ⊥
      no_line e = cc
  of_reads o (ended_early messages fault is on same) (Err (CaptureLine line)) wrote =
      no_line (subst (λ (x : Outcome). x.halt ≡ Some (Err (CaptureLine line))) same wrote.0)
    where
      no_line : ◌≡◌ {A = Option (Result Report ToolFault)} (Some (Ok (report_after w messages (Some fault))))
          (Some (Err (CaptureLine line))) → ⊥
      no_line e = cc
  of_reads o (complete messages is on same) (Err (CaptureLine line)) wrote =
      no_line (subst (λ (x : Outcome). x.halt ≡ Some (Err (CaptureLine line))) same wrote.0)
    where
      no_line : ◌≡◌ {A = Option (Result Report ToolFault)} (Some (Ok (report_after w messages None)))
          (Some (Err (CaptureLine line))) → ⊥
      no_line e = cc

  halt_starved : (o : Outcome) (s : IsStarved w given o) (r : Option (Result Report ToolFault)) → o.halt ≡ r
      → Some (Err OutOfMemory) ≡ r
  halt_starved o s r is = sym (ap (λ (x : Outcome). x.halt) s.outcome_is) ∙ is

  of_starved : (o : Outcome) → IsStarved w given o → (result : Result Report ToolFault)
      → WroteOutcome true result o old new
      → MessageAnswer w given ended result old new
  of_starved o s (Ok report) wrote = absurd (no (halt_starved o s (Some (Ok report)) wrote.0))
    where
      no : ◌≡◌ {A = Option (Result Report ToolFault)} (Some (Err OutOfMemory)) (Some (Ok report)) → ⊥
      no e = cc
  of_starved o s (Err Read) wrote = absurd (no (halt_starved o s None wrote.0))
    where
      no : ◌≡◌ {A = Option (Result Report ToolFault)} (Some (Err OutOfMemory)) None → ⊥
      no e = cc
  of_starved o s (Err TooManyReads) wrote = absurd (no (halt_starved o s None wrote.0))
    where
      no : ◌≡◌ {A = Option (Result Report ToolFault)} (Some (Err OutOfMemory)) None → ⊥
      no e = cc
  of_starved o s (Err (CaptureLine line)) wrote = no (halt_starved o s (Some (Err (CaptureLine line))) wrote.0)
    where
      no : ◌≡◌ {A = Option (Result Report ToolFault)} (Some (Err OutOfMemory)) (Some (Err (CaptureLine line))) → ⊥
      no e = cc
  of_starved o s (Err (Write written)) wrote =
      let following = starved_after w given ended o s in
      let text_is : whole o ≡ messages_text w 0 s.messages =
      ap whole s.outcome_is ∙ append-nil (messages_text w 0 s.messages) in
      let whole_is : whole following.outcome ≡ messages_text w 0 s.messages ++
      (following.rest ++ following.outcome.closing) =
      ap (λ (t : List ℕ). t ++ following.outcome.closing) following.text_is
      ∙ append_assoc (messages_text w 0 s.messages) following.rest following.outcome.closing in (
        following.outcome,
        following.reads,
        wrote.0,
        subst (λ (t : List ℕ). WentOut old new 0 written t wrote.0) (sym whole_is)
            (went_out_longer old new 0 written wrote.0 (messages_text w 0 s.messages)
            (following.rest ++ following.outcome.closing)
            (subst (λ (t : List ℕ). WentOut old new 0 written t wrote.0) text_is wrote.1)),
      )
  of_starved o s (Err OutOfMemory) wrote =
      let following = starved_after w given ended o s in
      let text_is : o.text ≡ messages_text w 0 s.messages = ap (λ (x : Outcome). x.text) s.outcome_is in
      let few : wrote.1 ≤ length (messages_text w 0 s.messages) =
      subst (λ (t : List ℕ). wrote.1 ≤ length t) text_is wrote.2 in
      let taken : Appends old new (take wrote.1 (messages_text w 0 s.messages)) =
      subst (λ (t : List ℕ). Appends old new (take wrote.1 t)) text_is wrote.3 in (
        following.outcome,
        following.reads,
        wrote.1,
        rw following.text_is (omega (arith, few, length-append (messages_text w 0 s.messages) following.rest)),
        rw following.text_is (rw (take-append-le wrote.1 (messages_text w 0 s.messages) following.rest few) taken),
      )

-- a run whose outcome is that of messages
pub messages_ran :
    (w : MessageWrites) (old new : KnownPorts) (result : Result Report ToolFault) → HasRun true (RunGives w) old new
    result
    → MessagesRan w old new result
messages_ran w old new result ran =
    record {
      given = ran.given;
      read = ran.read;
      answer = by ran.meant;
    }
  where
    by : RunGives w ran.given new.ended ran.outcome → MessageAnswer w ran.given new.ended result old.taken new.taken
    by (inl reads) = of_reads w ran.given new.ended old.taken new.taken ran.outcome reads result ran.wrote
    by (inr starved) = of_starved w ran.given new.ended old.taken new.taken ran.outcome starved result ran.wrote

-- ---- the status

same_report : (r s : Report) → ◌≡◌ {A = Option (Result Report ToolFault)} (Some (Ok r)) (Some (Ok s)) → r ≡ s
same_report r s e = cc

no_report : (r : Report) → ◌≡◌ {A = Option (Result Report ToolFault)} None (Some (Ok r)) → ⊥
no_report r e = cc

module _ (w : MessageWrites) (few : (messages : List MessageTree) → w.status messages ≤ 1) where
  after_few : (messages : List MessageTree) (fault : Option MessageFault) → (report_after w messages fault).status ≤ 1
  after_few messages None = few messages
  after_few messages (Some fault) = omega arith

  reads_few : (given : List ℕ) (ended : Bool) (o : Outcome) (report : Report) → HasOutcome w given ended o
      → o.halt ≡ Some (Ok report) → report.status ≤ 1
  reads_few given ended o report (refused messages fault is same) halt =
      subst (λ (r : Report). r.status ≤ 1) (same_report _ report
      (subst (λ (x : Outcome). x.halt ≡ Some (Ok report)) same halt)) (after_few messages (Some fault))
  reads_few given ended o report (goes_on messages left held split on same) halt =
      absurd (no_report report (subst (λ (x : Outcome). x.halt ≡ Some (Ok report)) same halt))
  reads_few given ended o report (ended_early messages fault is on same) halt =
      subst (λ (r : Report). r.status ≤ 1) (same_report _ report
      (subst (λ (x : Outcome). x.halt ≡ Some (Ok report)) same halt)) (after_few messages (Some fault))
  reads_few given ended o report (complete messages is on same) halt =
      subst (λ (r : Report). r.status ≤ 1) (same_report _ report
      (subst (λ (x : Outcome). x.halt ≡ Some (Ok report)) same halt)) (after_few messages None)

  pub messages_status :
      {old new : KnownPorts} (result : Result Report ToolFault) → MessagesRan w old new result
      → IfOk result (λ report. report.status ≤ 1)
  messages_status {old} {new} (Ok report) ran =
      reads_few ran.given new.ended ran.answer.0 report ran.answer.1 ran.answer.2
  messages_status (Err fault) ran = tt
