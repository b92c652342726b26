-- A signal by the numbers that C gets, but for the bytes of a frame's text.
use Rattle.std.specs.Prelude.{◌≡◌, ℕ, Bool, false, List, [], Option, None, Some, length, take}
use Rattle.lis_frame.specs.declared.scanner.SignalOf.{SignalOf}
use Rattle.lis_frame.specs.declared.scanner.SignalOf.TheVariants.{Enq, Eot, Good, Bad}
use Rattle.lis_c.specs.Codes.{fault_code, fault_place}
use Rattle.lis_c.specs.declared.feed.Report.{Report}

-- a report has these parts, and the bytes are at the front of `text`
pub record IsReport (report : Report) (text : List ℕ) (kind number : ℕ) (last : Bool) (fault place : ℕ)
    (bytes : List ℕ) : Type 0 where
  pub kind_is : report.kind ≡ kind
  pub number_is : report.number ≡ number
  pub last_is : report.last ≡ last
  pub fault_is : report.fault ≡ fault
  pub place_is : report.place ≡ place
  pub length_is : report.len ≡ length bytes
  pub text_is : take report.len text ≡ bytes

abbrev pub Reports : {limit : ℕ} → Option (SignalOf limit) → Report → List ℕ → Type 0
Reports None report text = IsReport report text 0 0 false 0 0 []
Reports (Some Enq) report text = IsReport report text 1 0 false 0 0 []
Reports (Some Eot) report text = IsReport report text 2 0 false 0 0 []
Reports (Some (Good frame)) report text = IsReport report text 3 frame.number frame.last 0 0 frame.text
Reports (Some (Bad fault)) report text = IsReport report text 4 0 false (fault_code fault) (fault_place fault) []
