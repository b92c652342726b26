-- How a run over a source and a sink ends.
use Rattle.std.specs.Prelude.{◌≡◌, ℕ, ◌+◌, ◌≤◌, Bool, true, false, List, length, take, Option, None, Some, Ok, Err, ⊤}
use Rattle.std.specs.declared.result.Result.{Result}
use Rattle.std.specs.Io.KnownBytes.{Appends, Consumes, IsAtEnd}
use Rattle.lis_engine.specs.declared.fault.ToolFault.{ToolFault}
use Rattle.lis_engine.specs.declared.fault.ToolFault.TheVariants.{CaptureLine, Read, Write, OutOfMemory, TooManyReads}
use Rattle.lis_engine.specs.declared.report.Report.{Report}
use Rattle.lis_engine.specs.Outcome.{Outcome, whole}
use Rattle.lis_engine.specs.Output.{WentOut}

-- before a run nothing was read, and neither the source nor the sink failed
pub record IsFresh (made : ℕ) (ended source_failed sink_failed : Bool) : Type 0 where
  pub unread : made ≡ 0
  pub not_ended : ended ≡ false
  pub not_failed : source_failed ≡ false
  pub working : sink_failed ≡ false

-- What is known of a source and a sink: what the source has left, the reads made, and whether it reported the end or
-- failed; what the sink took and sent on, and whether it failed.
pub record KnownPorts : Type 0 where
  pub left : Option (List ℕ)
  pub made : ℕ
  pub ended : Bool
  pub source_failed : Bool
  pub taken : Option (List ℕ)
  pub sent : Option (List ℕ)
  pub sink_failed : Bool

-- what is known of them by what each of the two types says of its own values
abbrev pub ports : {R W : Type 0} → (left : R → Option (List ℕ)) (made : R → ℕ) (ended source_failed : R → Bool)
    (taken sent : W → Option (List ℕ)) (sink_failed : W → Bool)
    → R → W → KnownPorts
ports left made ended source_failed taken sent sink_failed source sink = record {
  left = left source;
  made = made source;
  ended = ended source;
  source_failed = source_failed source;
  taken = taken sink;
  sent = sent sink;
  sink_failed = sink_failed sink;
}

abbrev pub AreFresh : KnownPorts → Type 0
AreFresh known_ports = IsFresh known_ports.made known_ports.ended known_ports.source_failed known_ports.sink_failed

-- what went out of an outcome's text: with a report all of it; where a line is rejected, or the source failed or was
-- read too often, all but the closing lines; where the sink failed as much as is reported; and if memory runs out a
-- part without the closing lines
abbrev pub WroteOutcome : {F : Type 0} → (takes_memory : Bool) → Result (Report F) ToolFault → Outcome F
    → Option (List ℕ) → Option (List ℕ)
    → Type 0
WroteOutcome takes_memory (Ok report) o old new = (o.halt ≡ Some (Ok report)) × Appends old new (whole o)
WroteOutcome takes_memory (Err (CaptureLine line)) o old new =
    (o.halt ≡ Some (Err (CaptureLine line))) × Appends old new o.text
WroteOutcome takes_memory (Err Read) o old new = (o.halt ≡ None) × Appends old new o.text
WroteOutcome takes_memory (Err TooManyReads) o old new = (o.halt ≡ None) × Appends old new o.text
WroteOutcome takes_memory (Err (Write written)) o old new = (count : ℕ) × WentOut old new 0 written (whole o) count
WroteOutcome takes_memory (Err OutOfMemory) o old new =
    (takes_memory ≡ true) × (count : ℕ) × (count ≤ length o.text) × Appends old new (take count o.text)

-- all the bytes that were read, what they give, and what went out
pub record Ran {F : Type 0}
    (takes_memory : Bool) (means : List ℕ → Bool → Outcome F → Type 0)
    (left_old left_new taken_old taken_new : Option (List ℕ))
    (ended : Bool) (result : Result (Report F) ToolFault) : Type 0 where
  pub given : List ℕ
  pub read : Consumes left_old left_new given
  pub outcome : Outcome F
  pub meant : means given ended outcome
  pub wrote : WroteOutcome takes_memory result outcome taken_old taken_new

abbrev pub HasRun : {F : Type 0} → (takes_memory : Bool) (means : List ℕ → Bool → Outcome F → Type 0)
    (old new : KnownPorts)
    → Result (Report F) ToolFault → Type 0
HasRun takes_memory means old new result =
    Ran takes_memory means old.left new.left old.taken new.taken new.ended result

-- A report is answered where the source reported the end. A command that may reject input answers before that too, but
-- only where it did.
abbrev pub IsFinished : {F : Type 0} → (refuses : Bool) → Option F → (ended : Bool) → Type 0
IsFinished false refused ended = ended ≡ true
IsFinished true None ended = ended ≡ true
IsFinished true (Some refused) ended = ⊤

-- each ending is where the last read or write says so: a report where the source reported the end or input is
-- rejected, a fault of the source or the sink where that failed, and too many reads where as many were made and none
-- of these is. A command that writes nothing at the end has no fault of the sink there.
abbrev pub Stopped : {F : Type 0} → (refuses closes : Bool) → Result (Report F) ToolFault → Bool → Bool → Bool → ℕ
    → ℕ → Type 0
Stopped refuses closes (Ok report) ended source_failed sink_failed made reads =
    IsFinished refuses report.refused ended × (source_failed ≡ false) × (sink_failed ≡ false)
Stopped refuses closes (Err Read) ended source_failed sink_failed made reads =
    (ended ≡ false) × (source_failed ≡ true) × (sink_failed ≡ false)
Stopped refuses closes (Err (Write written)) ended source_failed sink_failed made reads =
    (closes ≡ false → ended ≡ false) × (source_failed ≡ false) × (sink_failed ≡ true)
Stopped refuses closes (Err TooManyReads) ended source_failed sink_failed made reads =
    (ended ≡ false) × (source_failed ≡ false) × (sink_failed ≡ false) × (made ≡ reads)
Stopped refuses closes (Err (CaptureLine line)) ended source_failed sink_failed made reads =
    (source_failed ≡ false) × (sink_failed ≡ false)
Stopped refuses closes (Err OutOfMemory) ended source_failed sink_failed made reads =
    (source_failed ≡ false) × (sink_failed ≡ false)

-- nothing that the sink took is held back, but where it failed
abbrev pub Sent : {F : Type 0} → Result (Report F) ToolFault → Option (List ℕ) → Option (List ℕ) → Type 0
Sent (Ok report) sent taken = sent ≡ taken
Sent (Err Read) sent taken = sent ≡ taken
Sent (Err TooManyReads) sent taken = sent ≡ taken
Sent (Err (Write written)) sent taken = ⊤
Sent (Err (CaptureLine line)) sent taken = sent ≡ taken
Sent (Err OutOfMemory) sent taken = sent ≡ taken

-- how a run stops, by what is known of the source and the sink: what the source has left, whether it reported the end
-- or failed, and the reads made; what the sink took and sent on, and whether it failed; and the most reads
pub record StopsBy {F : Type 0}
    (refuses closes : Bool) (result : Result (Report F) ToolFault) (left : Option (List ℕ)) (ended source_failed : Bool)
    (made : ℕ)
    (taken sent : Option (List ℕ)) (sink_failed : Bool) (reads : ℕ) : Type 0 where
  pub stopped : Stopped refuses closes result ended source_failed sink_failed made reads
  pub sent_on : Sent result sent taken
  pub all_read : ended ≡ true → IsAtEnd left
  pub bounded : made ≤ reads

-- at most one read more than bytes were read: so more reads than were allowed come of a long input alone
abbrev pub EachGave : Option (List ℕ) → Option (List ℕ) → (made : ℕ) → Type 0
EachGave left_old left_new made = (given : List ℕ) × Consumes left_old left_new given × (made ≤ length given + 1)

-- how a run stops by what was known of the source and the sink before it and is known after it
pub record Stops {F : Type 0} (refuses closes : Bool) (old new : KnownPorts) (reads : ℕ)
    (result : Result (Report F) ToolFault) : Type 0 where
  pub stops :
      StopsBy refuses closes result new.left new.ended new.source_failed new.made new.taken new.sent new.sink_failed
      reads
  pub each_gave : EachGave old.left new.left new.made

-- what went out for the bytes that were read, by a command that never rejects a line nor wants memory: all of their
-- text, or as much as is reported where the sink failed
abbrev pub WroteText : {F : Type 0} → Option (List ℕ) → Option (List ℕ) → Result (Report F) ToolFault → List ℕ → Type 0
WroteText old new (Ok report) text = Appends old new text
WroteText old new (Err Read) text = Appends old new text
WroteText old new (Err TooManyReads) text = Appends old new text
WroteText old new (Err (Write written)) text = (count : ℕ) × WentOut old new 0 written text count
WroteText old new (Err (CaptureLine line)) text = ⊥
WroteText old new (Err OutOfMemory) text = ⊥

-- the bytes that were read, and what went out for them
pub record Shown {F : Type 0} (text_of : List ℕ → List ℕ) (old new : KnownPorts)
    (result : Result (Report F) ToolFault) : Type 0 where
  pub given : List ℕ
  pub read : Consumes old.left new.left given
  pub wrote : WroteText old.taken new.taken result (text_of given)
