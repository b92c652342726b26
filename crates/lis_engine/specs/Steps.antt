-- What one step of a command puts, after the text that was put before.
use Rattle.std.specs.Prelude.{◌≡◌, ℕ, Bool, true, List, ◌++◌, Some, Ok, Err, is_some}
use Rattle.std.specs.declared.result.Result.{Result}
use Rattle.lis_engine.specs.declared.fault.ToolFault.{ToolFault}
use Rattle.lis_engine.specs.declared.fault.ToolFault.TheVariants.{CaptureLine, Read, Write, OutOfMemory, TooManyReads}
use Rattle.lis_engine.specs.declared.report.Report.{Report}
use Rattle.lis_engine.specs.declared.machine.Stop.{Stop}
use Rattle.lis_engine.specs.declared.machine.Stop.TheVariants.{Fault, Refused}
use Rattle.lis_engine.specs.Outcome.{Outcome, whole}
use Rattle.lis_engine.specs.Output.{Broke, IsLeft, IsWorking, Out, WentOn}

-- The run ends so, after this text. Memory is wanted only by a command that takes some.
abbrev pub Halts : {F : Type 0} → (takes_memory : Bool) (means : Outcome F → Type 0) → List ℕ
    → Result (Report F) ToolFault → Type 0
Halts {F} takes_memory means text (Ok report) =
    (o : Outcome F) × means o × (o.halt ≡ Some (Ok report)) × (whole o ≡ text)
Halts {F} takes_memory means text (Err (CaptureLine line)) =
    (o : Outcome F) × means o × (o.halt ≡ Some (Err (CaptureLine line))) × (o.text ≡ text)
Halts {F} takes_memory means text (Err OutOfMemory) =
    (o : Outcome F) × means o × (rest : List ℕ) × (o.text ≡ text ++ rest) × (takes_memory ≡ true)
Halts {F} takes_memory means text (Err Read) = ⊥
Halts {F} takes_memory means text (Err (Write written)) = ⊥
Halts {F} takes_memory means text (Err TooManyReads) = ⊥

-- the sink failed in a part of the text
pub record Fails {F : Type 0} (means : Outcome F → Type 0) (old new : Out) (text : List ℕ) (fault : ToolFault) : Type 0
  where
    pub outcome : Outcome F
    pub meant : means outcome
    pub more : List ℕ
    pub rest : List ℕ
    pub joined : whole outcome ≡ text ++ more ++ rest
    pub broke : Broke old new fault more

-- so much more text was put, and this holds of all of it
pub record Puts (holds : List ℕ → Type 0) (old new : Out) (text : List ℕ) : Type 0 where
  pub more : List ℕ
  pub put : WentOn old new more
  pub following : holds (text ++ more)

-- a last step
abbrev pub Ends : {F : Type 0} → (takes_memory : Bool) (means : Outcome F → Type 0) → Out → Out → List ℕ
    → Result (Report F) ToolFault
    → Type 0
Ends takes_memory means old new text (Ok report) = Puts (λ all. Halts takes_memory means all (Ok report)) old new text
Ends takes_memory means old new text (Err (Write written)) = Fails means old new text (Write written)
Ends takes_memory means old new text (Err (CaptureLine line)) =
    Puts (λ all. Halts takes_memory means all (Err (CaptureLine line))) old new text
Ends takes_memory means old new text (Err OutOfMemory) =
    Puts (λ all. Halts takes_memory means all (Err OutOfMemory)) old new text
Ends takes_memory means old new text (Err Read) = ⊥
Ends takes_memory means old new text (Err TooManyReads) = ⊥

-- a step that may be the last: if it isn't, the machine is so for all of the text
abbrev pub Steps :
    {F : Type 0} → (refuses takes_memory : Bool) (represents : List ℕ → Type 0) (means : Outcome F → Type 0) → Out
    → Out → List ℕ
    → Result Unit (Stop F) → Type 0
Steps refuses takes_memory represents means old new text (Ok done) = Puts represents old new text
Steps refuses takes_memory represents means old new text (Err (Refused report)) =
    Ends takes_memory means old new text (Ok report) × (refuses ≡ true) × (is_some report.refused ≡ true)
Steps refuses takes_memory represents means old new text (Err (Fault fault)) =
    Ends takes_memory means old new text (Err fault)

-- how a run ends whose command stopped so
abbrev pub ended_by : {F : Type 0} → Stop F → Result (Report F) ToolFault
ended_by (Fault fault) = Err fault
ended_by (Refused report) = Ok report

-- an output as a step with this result leaves it
abbrev pub IsLeftAt : {F : Type 0} → Result Unit (Stop F) → Out → Type 0
IsLeftAt (Ok done) out = IsWorking out
IsLeftAt (Err stop) out = IsLeft (ended_by stop) out

-- what a step puts for a piece of the input: all of its text, or a part if memory runs out or the sink fails
abbrev pub LineSteps : (takes_memory : Bool) (represents : Type 0) → Out → Out → List ℕ → Result Unit ToolFault → Type 0
LineSteps takes_memory represents old new text (Ok done) = WentOn old new text × represents
LineSteps takes_memory represents old new text (Err (Write written)) = Broke old new (Write written) text
LineSteps takes_memory represents old new text (Err OutOfMemory) =
    (takes_memory ≡ true) × (more : List ℕ) × (rest : List ℕ) × (text ≡ more ++ rest) × WentOn old new more
LineSteps takes_memory represents old new text (Err (CaptureLine line)) = ⊥
LineSteps takes_memory represents old new text (Err Read) = ⊥
LineSteps takes_memory represents old new text (Err TooManyReads) = ⊥

-- and after the last one
abbrev pub LineEnds : {F : Type 0} → Report F → Out → Out → List ℕ → Result (Report F) ToolFault → Type 0
LineEnds report old new text (Ok answer) = (answer ≡ report) × WentOn old new text
LineEnds report old new text (Err fault) = Broke old new fault text
