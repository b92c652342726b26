-- What a receiver of the program keeps, as its contracts see it.
use Rattle.std.specs.Prelude.{ℕ, Bool, List}
use Rattle.lis_frame.specs.Scanner.{Held}
use Rattle.lis_text.specs.declared.readiness.Readiness.{Readiness}

-- whether the line is open, the number of accepted frames, how it answers ENQ, the room, the held text, what the
-- scanner holds, and by how many bytes the held text can grow without memory being taken
pub record Kept : Type 0 where
  pub is_open : Bool
  pub accepted : ℕ
  pub readiness : Readiness
  pub room : Bool
  pub held : List ℕ
  pub scanner : Held
  pub spare : ℕ

-- the same but for the scanner: what it keeps of the line
pub record KeptLine : Type 0 where
  pub is_open : Bool
  pub accepted : ℕ
  pub readiness : Readiness
  pub room : Bool
  pub held : List ℕ
  pub spare : ℕ

-- the line and the scanner together
abbrev pub kept_of : KeptLine → Held → Kept
kept_of line scanner =
    record {
      is_open = line.is_open;
      accepted = line.accepted;
      readiness = line.readiness;
      room = line.room;
      held = line.held;
      scanner = scanner;
      spare = line.spare;
    }
