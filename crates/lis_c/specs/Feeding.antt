-- Bytes that are read up to the first that gives a signal.
use Rattle.std.specs.Prelude.{◌≡◌, ℕ, ◌-◌, ◌≤◌, List, [], length, take, Option, None}
use Rattle.std.specs.Option.{option_to_list}
use Rattle.lis_frame.specs.declared.scanner.SignalOf.{SignalOf}
use Rattle.lis_frame.specs.Stream.{signals_after}

-- so many bytes were read: they give this signal and no other, and it is at their last byte
pub record SignalsLast (limit : ℕ) (past bytes : List ℕ) (count : ℕ) (signal : Option (SignalOf limit)) : Type 0 where
  pub within : count ≤ length bytes
  pub reports : signals_after limit past (take count bytes) ≡ option_to_list signal
  pub before : signals_after limit past (take (count - 1) bytes) ≡ []

-- and they are all, where none gives a signal
pub record IsFed (limit : ℕ) (past bytes : List ℕ) (count : ℕ) (signal : Option (SignalOf limit)) : Type 0 where
  pub first : SignalsLast limit past bytes count signal
  pub all : signal ≡ None → count ≡ length bytes
