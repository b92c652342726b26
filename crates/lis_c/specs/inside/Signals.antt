-- How a report is put into the caller's signal, and its text into it or next to it.
use Rattle.std.specs.Prelude.{◌≡◌, ℕ, ◌≤◌, ◌<◌, List, take}
use Rattle.lis_c.specs.declared.feed.Report.{Report}
use Rattle.lis_c.specs.declared.out.LisSignal.{LisSignal}

-- a report is put into a signal
pub record Puts (report : Report) (out : LisSignal) : Type 0 where
  pub kind_is : out.kind ≡ report.kind
  pub number_is : out.number ≡ report.number
  pub last_is : out.last ≡ report.last
  pub fault_is : out.fault ≡ report.fault
  pub place_is : out.place ≡ report.place
  pub length_is : out.len ≡ report.len

-- and its text, if there is room for it, else so many bytes of it are next to the signal
pub record PutsLong (report : Report) (text : List ℕ) (out : LisSignal) (beside : ℕ) : Type 0 where
  pub number_is : out.number ≡ report.number
  pub last_is : out.last ≡ report.last
  pub fault_is : out.fault ≡ report.fault
  pub place_is : out.place ≡ report.place
  pub short : report.len ≤ 240 → (out.kind ≡ report.kind) × (out.len ≡ report.len)
      × (take report.len out.text ≡ take report.len text) × (beside ≡ 0)
  pub long : 240 < report.len → (out.kind ≡ 5) × (out.len ≡ 0) × (beside ≡ report.len)
