-- What the bytes that a command has read give.
use Rattle.std.specs.Prelude.{ℕ, Bool, true, false, List, [], ◌++◌, Option, None, Some, Ok}
use Rattle.std.specs.declared.result.Result.{Result}
use Rattle.lis_engine.specs.declared.fault.ToolFault.{ToolFault}
use Rattle.lis_engine.specs.declared.report.Report.{Report}

-- the text for what is ended in them; the closing lines, which are after it where the run ends in them; and how the
-- run ends in them, if it does
pub record Outcome (F : Type 0) : Type 0 where
  pub text : List ℕ
  pub closing : List ℕ
  pub halt : Option (Result (Report F) ToolFault)

-- all that is written
abbrev pub whole : {F : Type 0} → Outcome F → List ℕ
whole outcome = outcome.text ++ outcome.closing

-- the run goes on, with this text
abbrev pub going : {F : Type 0} → List ℕ → Outcome F
going text = record { text = text; closing = []; halt = None }

-- the run ends where the input does, with this report
abbrev pub at_end : {F : Type 0} → Bool → Report F → Option (Result (Report F) ToolFault)
at_end true report = Some (Ok report)
at_end false report = None
