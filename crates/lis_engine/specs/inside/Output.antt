-- What went out of a text that could not be sent on.
use Rattle.std.specs.Prelude.{◌≡◌, ℕ, true, [], List, length, Option, Ok, Err}
use Rattle.std.specs.declared.result.Result.{Result}
use Rattle.lis_engine.specs.declared.fault.ToolFault.{ToolFault}
use Rattle.lis_engine.specs.declared.fault.ToolFault.TheVariants.{CaptureLine, Read, Write, OutOfMemory, TooManyReads}
use Rattle.lis_engine.specs.Output.{FailedIn, Out, WentOn, WentOut}

-- a text that goes out by itself, with the counts before and after it
abbrev pub Put : Option (List ℕ) → Option (List ℕ) → (before after : ℕ) → Result Unit ToolFault → List ℕ → Type 0
Put old new before after (Ok done) text = WentOut old new before after text (length text)
Put old new before after (Err fault) text = FailedIn old new before fault text

-- a part of the text went out, or all of it, which could not be sent on: so many bytes, as the fault reports
abbrev pub PartWentOut : Option (List ℕ) → Option (List ℕ) → ℕ → ToolFault → List ℕ → Type 0
PartWentOut old new before (Write written) text = (count : ℕ) × WentOut old new before written text count
PartWentOut old new before (CaptureLine line) text = ⊥
PartWentOut old new before Read text = ⊥
PartWentOut old new before OutOfMemory text = ⊥
PartWentOut old new before TooManyReads text = ⊥

-- all that waited went out and was sent on, or a part of it went out
pub record SentOn (old new : Out) : Type 0 where
  pub went : WentOn old new []
  pub sent : new.sent ≡ new.taken
  pub empty : new.waits ≡ []

pub record Unsent (old new : Out) (fault : ToolFault) : Type 0 where
  pub failed : new.failed ≡ true
  pub same : new.sink ≡ old.sink
  pub part : PartWentOut old.taken new.taken old.written fault old.waits

abbrev pub IsSent : Out → Out → Result Unit ToolFault → Type 0
IsSent old new (Ok done) = SentOn old new
IsSent old new (Err fault) = Unsent old new fault

-- nothing was put so far
pub record IsUnused (out : Out) : Type 0 where
  pub empty : out.waits ≡ []
  pub none : out.written ≡ 0
