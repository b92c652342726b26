-- What a run writes, and what a call that writes has put out.
use Rattle.std.specs.Prelude.{◌≡◌, ℕ, ◌+◌, ◌<◌, ◌≤◌, Bool, true, false, List, ◌++◌, Option, Ok, Err, length, take, min}
use Rattle.std.specs.declared.result.Result.{Result}
use Rattle.std.specs.Borrow.{GName}
use Rattle.std.specs.Io.KnownBytes.{Appends}
use Rattle.lis_engine.specs.declared.fault.ToolFault.{ToolFault}
use Rattle.lis_engine.specs.declared.fault.ToolFault.TheVariants.{CaptureLine, Read, Write, OutOfMemory, TooManyReads}

-- the greatest count; a count stays there
abbrev pub most_counted : ℕ
most_counted = 18446744073709551615

-- so many bytes of the text went out, and these are all that is known to be taken since
pub record WentOut (old new : Option (List ℕ)) (before : ℕ) (after : ℕ) (text : List ℕ) (count : ℕ) : Type 0 where
  pub within : count ≤ length text
  pub taken : Appends old new (take count text)
  pub counted : after ≡ min (before + count) most_counted

-- the sink failed in a text: a part of it went out, and the fault reports the count of all bytes that did
abbrev pub FailedIn : Option (List ℕ) → Option (List ℕ) → ℕ → ToolFault → List ℕ → Type 0
FailedIn old new before (Write written) text =
    (count : ℕ) × (count < length text) × WentOut old new before written text count
FailedIn old new before (CaptureLine line) text = ⊥
FailedIn old new before Read text = ⊥
FailedIn old new before OutOfMemory text = ⊥
FailedIn old new before TooManyReads text = ⊥

-- An output: what its sink took and sent on, as far as it is known, and whether it failed; how many bytes of this run
-- it took; the bytes that wait to go out; and which sink it is.
pub record Out : Type 0 where
  pub taken : Option (List ℕ)
  pub sent : Option (List ℕ)
  pub failed : Bool
  pub written : ℕ
  pub waits : List ℕ
  pub sink : GName

-- its sink has not failed, and its count is one that there is
pub record IsWorking (out : Out) : Type 0 where
  pub works : out.failed ≡ false
  pub counts : out.written ≤ most_counted

-- a text was put: of the bytes that waited and this text a front went out, and the others wait
pub record WentOn (old new : Out) (text : List ℕ) : Type 0 where
  pub working : IsWorking new
  pub same : new.sink ≡ old.sink
  pub front : List ℕ
  pub joined : old.waits ++ text ≡ front ++ new.waits
  pub went : WentOut old.taken new.taken old.written new.written front (length front)

-- the sink failed: of the bytes that waited and this text a part went out
pub record Broke (old new : Out) (fault : ToolFault) (text : List ℕ) : Type 0 where
  pub failed : new.failed ≡ true
  pub same : new.sink ≡ old.sink
  pub part : FailedIn old.taken new.taken old.written fault (old.waits ++ text)

abbrev pub IsPut : Out → Out → Result Unit ToolFault → List ℕ → Type 0
IsPut old new (Ok done) text = WentOn old new text
IsPut old new (Err fault) text = Broke old new fault text

-- an output as a call with this result leaves it: its sink failed exactly if that is the fault
abbrev pub IsLeft : {A : Type 0} → Result A ToolFault → Out → Type 0
IsLeft (Ok a) out = IsWorking out
IsLeft (Err (Write written)) out = out.failed ≡ true
IsLeft (Err (CaptureLine line)) out = IsWorking out
IsLeft (Err Read) out = IsWorking out
IsLeft (Err OutOfMemory) out = IsWorking out
IsLeft (Err TooManyReads) out = IsWorking out
