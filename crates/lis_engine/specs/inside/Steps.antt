-- How a run ends whose command takes no more input.
use Rattle.std.specs.Prelude.{◌≡◌, ℕ, Bool, List, Err}
use Rattle.std.specs.declared.result.Result.{Result}
use Rattle.lis_engine.specs.declared.fault.ToolFault.{ToolFault}
use Rattle.lis_engine.specs.declared.fault.ToolFault.TheVariants.{Write}
use Rattle.lis_engine.specs.declared.report.Report.{Report}
use Rattle.lis_engine.specs.Outcome.{Outcome}
use Rattle.lis_engine.specs.Output.{IsWorking, Out}
use Rattle.lis_engine.specs.Steps.{Ends}
use Rattle.lis_engine.specs.inside.Output.{SentOn, Unsent}

-- the sink had failed; or what waited was sent on; or it could not be
pub data IsHalted {F : Type 0} (ended : Result (Report F) ToolFault) (old new : Out)
    (result : Result (Report F) ToolFault) : Type 0 where
  had_failed : (written : ℕ) → ended ≡ Err (Write written) → result ≡ Err (Write written) → new ≡ old
      → IsHalted ended old new result
  is_sent : IsWorking old → result ≡ ended → SentOn old new → IsHalted ended old new result
  is_unsent : (fault : ToolFault) → IsWorking old → result ≡ Err fault → Unsent old new fault
      → IsHalted ended old new result

-- a command took a last step, and then the run halted
pub record IsEnded {F : Type 0} (takes_memory : Bool) (means : Outcome F → Type 0) (old new : Out) (text : List ℕ)
    (result : Result (Report F) ToolFault) : Type 0 where
  pub out : Out
  pub answer : Result (Report F) ToolFault
  pub ends : Ends takes_memory means old out text answer
  pub halted : IsHalted answer out new result
