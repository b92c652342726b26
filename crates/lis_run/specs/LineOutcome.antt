-- What the lines of a capture give, for a command that writes something for each. Lines are kept newest first.
use Rattle.std.specs.Prelude.{◌≡◌, ℕ, ◌+◌, Bool, true, false, List, [], ◌∷◌, ◌++◌, length, Some, Ok, Err}
use Rattle.lis_frame.specs.Stream.{stream_with}
use Rattle.lis_capture.specs.declared.line.Line.{Line}
use Rattle.lis_capture.specs.Capture.{capture}
use Rattle.lis_capture.specs.Reader.{HasRead, Reading}
use Rattle.lis_engine.specs.declared.fault.ToolFault.TheVariants.{CaptureLine}
use Rattle.lis_report.specs.Answers.{Report}
use Rattle.lis_engine.specs.Outcome.{going}
use Rattle.lis_report.specs.Answers.{Outcome}

-- what a command writes for a line after others, and after the last; and how it ends
pub record Writes : Type 0 where
  pub line : List Line → Line → List ℕ
  pub last : List Line → List ℕ
  pub report : List Line → Report

-- all that is written for lines
abbrev pub lines_text : Writes → List Line → List ℕ
lines_text w [] = []
lines_text w (line ∷ lines) = lines_text w lines ++ w.line lines line

-- what the lines give, by whether the next one is rejected and whether the input is ended: a rejected line stops the
-- run with its number, and else the end of the input does
abbrev pub lines_outcome : Writes → (refused ended : Bool) → List Line → Outcome
lines_outcome w true ended lines =
    record { text = lines_text w lines; closing = []; halt = Some (Err (CaptureLine (length lines + 1))) }
lines_outcome w false true lines = record {
  text = lines_text w lines;
  closing = w.last lines;
  halt =
      Some (Ok (w.report lines));
}
lines_outcome w false false lines = going (lines_text w lines)

-- what bytes give, newest first
abbrev pub capture_outcome : Writes → List ℕ → Bool → Outcome
capture_outcome w past ended = lines_outcome w (capture past ended).refused ended (capture past ended).lines

-- these bytes were read, no line of them is rejected, and the command represents the lines; their text is this
pub record IsLined (w : Writes) (represents : List Line → Type 0) (reader : Reading) (bytes text : List ℕ) : Type 0
  where
    pub has_read : HasRead reader (stream_with [] bytes)
    pub fine : (capture (stream_with [] bytes) false).refused ≡ false
    pub represented : represents (capture (stream_with [] bytes) false).lines
    pub text_is : text ≡ lines_text w (capture (stream_with [] bytes) false).lines
