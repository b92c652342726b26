-- What C gets of a signal.
use Rattle.std.specs.Prelude.{◌≡◌, ℕ, Bool, false, List, [], Option, None, Some, length, take, if◌then◌else◌, nat_lt}
use Rattle.std.specs.Prelude.{◌&&◌}
use Rattle.lis_frame.specs.declared.scanner.SignalOf.{SignalOf}
use Rattle.lis_frame.specs.declared.scanner.SignalOf.TheVariants.{Enq, Eot, Good, Bad}
use Rattle.lis_c.specs.Codes.{fault_code, fault_place}
use Rattle.lis_c.specs.Feeding.{IsFed}
use Rattle.lis_c.specs.declared.out.LisSignal.{LisSignal}

pub record HasParts (out : LisSignal) (kind number : ℕ) (last : Bool) (fault place : ℕ) (text : List ℕ) : Type 0 where
  pub kind_is : out.kind ≡ kind
  pub number_is : out.number ≡ number
  pub last_is : out.last ≡ last
  pub fault_is : out.fault ≡ fault
  pub place_is : out.place ≡ place
  pub length_is : out.len ≡ length text
  pub text_is : take out.len out.text ≡ text

-- whether a text has more bytes than a signal has room for; with the usual limit none has
abbrev pub is_long : ℕ → List ℕ → Bool
is_long limit text = nat_lt 240 limit && nat_lt 240 (length text)

-- a frame's text is in the signal, or, if it is long, next to it
pub record ReportsFrame (long : Bool) (number : ℕ) (last : Bool) (text : List ℕ) (out : LisSignal) (beside : List ℕ) :
    Type 0 where
  pub parts_are : HasParts out (if long then 5 else 3) number last 0 0 (if long then [] else text)
  pub beside_is : beside ≡ (if long then text else [])

-- the signal is reported, and these bytes are next to it
abbrev pub ReportsSignal : {limit : ℕ} → Option (SignalOf limit) → LisSignal → List ℕ → Type 0
ReportsSignal None out beside = HasParts out 0 0 false 0 0 [] × (beside ≡ [])
ReportsSignal (Some Enq) out beside = HasParts out 1 0 false 0 0 [] × (beside ≡ [])
ReportsSignal (Some Eot) out beside = HasParts out 2 0 false 0 0 [] × (beside ≡ [])
ReportsSignal {limit = limit} (Some (Good frame)) out beside =
    ReportsFrame (is_long limit frame.text) frame.number frame.last frame.text out beside
ReportsSignal (Some (Bad fault)) out beside =
    HasParts out 4 0 false (fault_code fault) (fault_place fault) [] × (beside ≡ [])

-- bytes were read, and their signal reported
pub record FedAndAnswered (limit : ℕ) (past bytes : List ℕ) (count : ℕ) (out : LisSignal) (beside : List ℕ) : Type 0
  where
    pub signal : Option (SignalOf limit)
    pub fed : IsFed limit past bytes count signal
    pub answered : ReportsSignal signal out beside
