-- A run over a capture, reported by its lines.
use Rattle.std.proofs.Common.{◌≡◌, ℕ, ◌+◌, Bool, true, false, List, [], Option, None, Some, Ok, Err, length, refl}
use Rattle.std.proofs.Common.{◌∙◌, ap, subst, IfOk}
use Rattle.std.specs.declared.result.Result.{Result}
use Rattle.std.specs.Io.KnownBytes.{Appends}
use Rattle.lis_frame.specs.Stream.{stream_with}
use Rattle.lis_capture.specs.declared.line.Line.{Line}
use Rattle.lis_capture.specs.Capture.{capture}
use Rattle.lis_engine.specs.declared.fault.ToolFault.{ToolFault}
use Rattle.lis_engine.specs.declared.fault.ToolFault.TheVariants.{CaptureLine, Read, Write, OutOfMemory, TooManyReads}
use Rattle.lis_report.specs.Answers.{Report}
use Rattle.lis_run.specs.CaptureRuns.{CaptureRan, LineAnswer}
use Rattle.lis_run.specs.LineOutcome.{Writes, capture_outcome, lines_outcome, lines_text}
use Rattle.lis_report.specs.Answers.{Outcome}
use Rattle.lis_engine.specs.Runs.{HasRun, KnownPorts, WroteOutcome}

module _ (memory : Bool) (w : Writes) (old new : Option (List ℕ)) where
  -- a run that lines do not halt has none rejected, and their text went out
  read_on : (refused ended : Bool) (lines : List Line)
      → ((lines_outcome w refused ended lines).halt ≡ None)
      × Appends old new (lines_outcome w refused ended lines).text
      → (refused ≡ false) × Appends old new (lines_text w lines)
  read_on true ended lines wrote = absurd (halts wrote.0)
    where
      halts : ◌≡◌ {A = Option (Result Report ToolFault)} (Some (Err (CaptureLine (length lines + 1)))) None → ⊥
      halts is = cc
  read_on false true lines wrote = (refl, wrote.1)
  read_on false false lines wrote = (refl, wrote.1)

  answer : (refused ended : Bool) (lines : List Line) (result : Result Report ToolFault)
      → WroteOutcome memory result (lines_outcome w refused ended lines) old new
      → LineAnswer memory w (record { lines = lines; refused = refused }) ended result old new
  answer true ended lines (Ok report) wrote = absurd (no_report wrote.0)
    where
      no_report : ◌≡◌ {A = Option (Result Report ToolFault)} (Some (Err (CaptureLine (length lines + 1))))
          (Some (Ok report)) → ⊥
      no_report is = cc
  answer false true lines (Ok report) wrote = (refl, refl, same wrote.0, wrote.1)
    where
      same : ◌≡◌ {A = Option (Result Report ToolFault)} (Some (Ok (w.report lines))) (Some (Ok report))
          → report ≡ w.report lines
      same is = cc
  answer false false lines (Ok report) wrote = absurd (no_halt wrote.0)
    where
      no_halt : ◌≡◌ {A = Option (Result Report ToolFault)} None (Some (Ok report)) → ⊥
      no_halt is = cc
  answer true ended lines (Err (CaptureLine line)) wrote = (refl, same wrote.0, wrote.1)
    where
      same : ◌≡◌ {A = Option (Result Report ToolFault)} (Some (Err (CaptureLine (length lines + 1))))
          (Some (Err (CaptureLine line))) → line ≡ length lines + 1
      same is = cc
  answer false true lines (Err (CaptureLine line)) wrote = absurd (no_line wrote.0)
    where
      no_line : ◌≡◌ {A = Option (Result Report ToolFault)} (Some (Ok (w.report lines)))
          (Some (Err (CaptureLine line))) → ⊥
      no_line is = cc
  answer false false lines (Err (CaptureLine line)) wrote = absurd (no_halt wrote.0)
    where
      no_halt : ◌≡◌ {A = Option (Result Report ToolFault)} None (Some (Err (CaptureLine line))) → ⊥
      no_halt is = cc
  answer refused ended lines (Err Read) wrote = read_on refused ended lines wrote
  answer refused ended lines (Err TooManyReads) wrote = read_on refused ended lines wrote
  answer refused ended lines (Err (Write written)) wrote = wrote
  answer true ended lines (Err OutOfMemory) wrote = wrote
  answer false true lines (Err OutOfMemory) wrote = wrote
  answer false false lines (Err OutOfMemory) wrote = wrote

-- a run whose outcome is that of a capture
pub capture_ran :
    (memory : Bool) (w : Writes) (means : List ℕ → Bool → Outcome → Type 0)
    → ((bytes : List ℕ) (ended : Bool) (o : Outcome) → means bytes ended o
    → o ≡ capture_outcome w (stream_with [] bytes) ended)
    → (old new : KnownPorts) (result : Result Report ToolFault) → HasRun memory means old new result
    → CaptureRan memory w old new result
capture_ran memory w means is old new result ran =
    let read = capture (stream_with [] ran.given) new.ended in
    record {
      given = ran.given;
      read = ran.read;
      answer =
          answer memory w old.taken new.taken read.refused new.ended read.lines result
          (subst (λ (o : Outcome). WroteOutcome memory result o old.taken new.taken)
          (is ran.given new.ended ran.outcome ran.meant) ran.wrote);
    }

-- the status of a command that never says about anything to look at
pub report_status :
    {memory : Bool} (w : Writes) {old new : KnownPorts} (result : Result Report ToolFault)
    → ((lines : List Line) → (w.report lines).status ≡ 0)
    → CaptureRan memory w old new result → IfOk result (λ report. report.status ≡ 0)
report_status w {old} {new} (Ok report) clean ran =
    ap (λ (r : Report). r.status) ran.answer.2 ∙ clean (capture (stream_with [] ran.given) new.ended).lines
report_status w (Err fault) clean ran = tt
