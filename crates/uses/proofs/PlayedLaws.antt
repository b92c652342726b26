-- Why a capture was not played, from how its replay ended.
use Rattle.std.proofs.Common.{◌≡◌, ℕ, ◌+◌, ◌≤◌, Bool, true, false, List, [], ◌++◌, Option, None, Some, Err, length}
use Rattle.std.proofs.Common.{◌↔◌, eqb, rules, refl, ap, ◌∙◌, arith, append-nil, length-append}
use Rattle.std.proofs.lemmas.Bool.{false≢true}
use Rattle.std.specs.Io.KnownBytes.{Consumes, IsAtEnd}
use Rattle.lis_frame.specs.Stream.{stream_with}
use Rattle.lis_frame.proofs.StreamLaws.{stream_with-append}
use Rattle.lis_capture.specs.Capture.{capture}
use Rattle.lis_capture.proofs.CaptureLemmas.{capture-refused}
use Rattle.lis_engine.specs.declared.fault.ToolFault.{ToolFault}
use Rattle.lis_engine.specs.declared.fault.ToolFault.TheVariants.{CaptureLine, Read, Write, OutOfMemory, TooManyReads}
use Rattle.lis_run.specs.CaptureRuns.{LineAnswer}
use Rattle.lis_run.specs.LineOutcome.{Writes}
use Rattle.lis_run.specs.Replay.{all_differences}
use Rattle.lis_engine.specs.Runs.{EachGave, Stopped}
use Rattle.lis_report.specs.declared.refused.Refused.{Refused}
use Rattle.uses.specs.Played.{WasNotPlayed, WasPlayed}

-- the lines of what was read up to a rejected one are those of the whole
refused_in_whole :
    (front rest : List ℕ) (ended : Bool) → (ended ≡ true → rest ≡ [])
    → (capture (stream_with [] front) ended).refused ≡ true
    → capture (stream_with [] (front ++ rest)) true ≡ capture (stream_with [] front) ended
refused_in_whole front rest true end refused =
    ap (λ (l : List ℕ). capture (stream_with [] l) true)
    (ap (λ (l : List ℕ). front ++ l) (end refl) ∙ append-nil front)
refused_in_whole front rest false end refused =
    ap (λ (l : List ℕ). capture l true) (stream_with-append front rest [])
    ∙ capture-refused (stream_with [] front) rest true refused

refused_line :
    (bytes front : List ℕ) (left : Option (List ℕ)) (ended : Bool) (line : ℕ)
    → Consumes (Some bytes) left front → (ended ≡ true → IsAtEnd left)
    → (capture (stream_with [] front) ended).refused ≡ true
    → line ≡ length (capture (stream_with [] front) ended).lines + 1
    → WasNotPlayed bytes (CaptureLine line)
refused_line bytes front None ended line read end refused is = absurd read
refused_line bytes front (Some rest) ended line read end refused is =
    let same = ap (λ (l : List ℕ). capture (stream_with [] l) true) read
    ∙ refused_in_whole front rest ended end refused in
    rw same (refused, is ∙ rw refused refl)

read_too_often :
    (bytes given : List ℕ) (left : Option (List ℕ)) (made : ℕ) → Consumes (Some bytes) left given
    → made ≤ length given + 1 → made ≡ 4294967295 → 4294967294 ≤ length bytes
read_too_often bytes given None made read gave is = absurd read
read_too_often bytes given (Some rest) made read gave is =
    omega (arith, gave, is, ap (λ (l : List ℕ). length l) read, length-append given rest)

pub not_played :
    (w : Writes) (bytes front : List ℕ) (left old new : Option (List ℕ)) (ended : Bool) (made : ℕ) (fault : ToolFault)
    → Consumes (Some bytes) left front
    → LineAnswer true w (capture (stream_with [] front) ended) ended (Err fault) old new
    → Stopped {F = Refused} false true (Err fault) ended false false made 4294967295 → (ended ≡ true → IsAtEnd left)
    → EachGave (Some bytes) left made → WasNotPlayed bytes fault
not_played w bytes front left old new ended made (CaptureLine line) read (refused, is, text) stopped end gave =
    refused_line bytes front left ended line read end refused is
not_played w bytes front left old new ended made Read read answer (running, failed, working) end gave =
    absurd (false≢true failed)
not_played w bytes front left old new ended made (Write written) read answer (running, failed, working) end gave =
    absurd (false≢true working)
not_played w bytes front left old new ended made OutOfMemory read answer stopped end gave = tt
not_played w bytes front left old new ended made TooManyReads read answer (running, failed, working, is) end
    (given, all, most) = read_too_often bytes given left made all most is

-- the capture was played, and no difference was said about where the status is 0
pub was_played : (bytes : List ℕ) (status : ℕ)
    → (capture (stream_with [] bytes) true).refused ≡ false
    → (status ≡ 0 ↔ all_differences 240 (capture (stream_with [] bytes) true).lines ≡ 0)
    → WasPlayed bytes (eqb status 0)
was_played bytes status whole reported = record { whole = whole; reported = search rules }
