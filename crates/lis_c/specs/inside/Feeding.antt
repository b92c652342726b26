-- What is reported of bytes that are read up to the first that gives a signal, with the text of a frame.
use Rattle.std.specs.Prelude.{ℕ, List, Option}
use Rattle.lis_frame.specs.declared.scanner.SignalOf.{SignalOf}
use Rattle.lis_c.specs.inside.Reports.{Reports}
use Rattle.lis_c.specs.declared.feed.Report.{Report}
use Rattle.lis_c.specs.Feeding.{SignalsLast, IsFed}

-- and the signal is reported, with a frame's text at the front of these bytes
pub record ReportsLast (limit : ℕ) (past bytes : List ℕ) (count : ℕ) (report : Report) (text : List ℕ) : Type 0 where
  pub signal : Option (SignalOf limit)
  pub last : SignalsLast limit past bytes count signal
  pub reported : Reports signal report text

pub record FedAndReported (limit : ℕ) (past bytes : List ℕ) (count : ℕ) (report : Report) (text : List ℕ) : Type 0 where
  pub signal : Option (SignalOf limit)
  pub fed : IsFed limit past bytes count signal
  pub reported : Reports signal report text
