-- A report and the signal that it is of.
use Rattle.std.proofs.Common.{◌≡◌, ◌≢◌, ◌≤◌, ◌<◌, ℕ, List, [], Option, None, Some, length, take, refl, ap, ◌∙◌}
use Rattle.std.proofs.Common.{Bool, arith, true, false, nat_lt}
use Rattle.std.proofs.lemmas.Bool.Decides.{nat_tests}
use Rattle.lis_frame.specs.declared.scanner.SignalOf.{SignalOf}
use Rattle.lis_frame.specs.declared.scanner.SignalOf.TheVariants.{Enq, Eot, Good, Bad}
use Rattle.lis_c.specs.inside.Feeding.{FedAndReported}
use Rattle.lis_c.specs.inside.Reports.{IsReport, Reports}
use Rattle.lis_c.specs.Signals.{FedAndAnswered, HasParts, ReportsFrame, ReportsSignal}
use Rattle.lis_c.specs.inside.Signals.{Puts, PutsLong}
use Rattle.lis_c.specs.declared.feed.Report.{Report}
use Rattle.lis_c.specs.declared.out.LisSignal.{LisSignal}

-- the number 0 says that there is no signal
pub silent : {limit : ℕ} (signal : Option (SignalOf limit)) (report : Report) (text : List ℕ) →
    Reports signal report text → report.kind ≡ 0 → signal ≡ None
silent None report text is zero = refl
silent (Some Enq) report text is zero = absurd (omega (is.kind_is, zero, arith))
silent (Some Eot) report text is zero = absurd (omega (is.kind_is, zero, arith))
silent (Some (Good frame)) report text is zero = absurd (omega (is.kind_is, zero, arith))
silent (Some (Bad fault)) report text is zero = absurd (omega (is.kind_is, zero, arith))

pub heard : {limit : ℕ} (signal : Option (SignalOf limit)) (report : Report) (text : List ℕ) →
    Reports signal report text → report.kind ≢ 0 → signal ≢ None
heard None report text is other = λ none. other is.kind_is
heard (Some signal) report text is other = λ none. absurd cc

-- what is put into a signal next to the text has the report's parts
parts : (report : Report) (out : LisSignal) (kind number : ℕ) (last : Bool) (fault place : ℕ) (bytes : List ℕ) →
    IsReport report out.text kind number last fault place bytes → Puts report out →
    HasParts out kind number last fault place bytes
parts report out kind number last fault place bytes is puts = record {
  kind_is = puts.kind_is ∙ is.kind_is;
  number_is = puts.number_is ∙ is.number_is;
  last_is = puts.last_is ∙ is.last_is;
  fault_is = puts.fault_is ∙ is.fault_is;
  place_is = puts.place_is ∙ is.place_is;
  length_is = puts.length_is ∙ is.length_is;
  text_is = ap (λ (n : ℕ). take n out.text) puts.length_is ∙ is.text_is;
}

-- with the usual limit each text is in the signal
pub usual : (signal : Option (SignalOf 240)) (report : Report) (out : LisSignal) →
    Reports signal report out.text → Puts report out → ReportsSignal signal out []
usual None report out is puts = (parts _ _ _ _ _ _ _ _ is puts, refl)
usual (Some Enq) report out is puts = (parts _ _ _ _ _ _ _ _ is puts, refl)
usual (Some Eot) report out is puts = (parts _ _ _ _ _ _ _ _ is puts, refl)
usual (Some (Good frame)) report out is puts =
    record { parts_are = parts _ _ _ _ _ _ _ _ is puts; beside_is = refl }
usual (Some (Bad fault)) report out is puts = (parts _ _ _ _ _ _ _ _ is puts, refl)

-- a text that is no longer than a signal has room for is in it
short_parts : (report : Report) (text : List ℕ) (out : LisSignal) (beside : ℕ)
    (kind number : ℕ) (last : Bool) (fault place : ℕ) (bytes : List ℕ) →
    IsReport report text kind number last fault place bytes → PutsLong report text out beside → length bytes ≤ 240 →
    HasParts out kind number last fault place bytes × (take beside text ≡ [])
short_parts report text out beside kind number last fault place bytes is puts few =
    let fits : report.len ≤ 240 = omega (few, is.length_is, arith) in
    let short = puts.short fits in (
      record {
        kind_is = short.0 ∙ is.kind_is;
        number_is = puts.number_is ∙ is.number_is;
        last_is = puts.last_is ∙ is.last_is;
        fault_is = puts.fault_is ∙ is.fault_is;
        place_is = puts.place_is ∙ is.place_is;
        length_is = short.1 ∙ is.length_is;
        text_is = ap (λ (n : ℕ). take n out.text) short.1 ∙ short.2 ∙ is.text_is;
      },
      ap (λ (n : ℕ). take n text) short.3,
    )

-- a longer one is next to it
long_parts : (report : Report) (text : List ℕ) (out : LisSignal) (beside : ℕ)
    (kind number : ℕ) (last : Bool) (fault place : ℕ) (bytes : List ℕ) →
    IsReport report text kind number last fault place bytes → PutsLong report text out beside → 240 < length bytes →
    HasParts out 5 number last fault place [] × (take beside text ≡ bytes)
long_parts report text out beside kind number last fault place bytes is puts many =
    let over : 240 < report.len = omega (many, is.length_is, arith) in
    let long = puts.long over in (
      record {
        kind_is = long.0;
        number_is = puts.number_is ∙ is.number_is;
        last_is = puts.last_is ∙ is.last_is;
        fault_is = puts.fault_is ∙ is.fault_is;
        place_is = puts.place_is ∙ is.place_is;
        length_is = long.1;
        text_is = ap (λ (n : ℕ). take n out.text) long.1;
      },
      ap (λ (n : ℕ). take n text) long.2 ∙ is.text_is,
    )

pub long : (signal : Option (SignalOf 63993)) (report : Report) (text : List ℕ) (out : LisSignal) (beside : ℕ) →
    Reports signal report text → PutsLong report text out beside → ReportsSignal signal out (take beside text)
long None report text out beside is puts = short_parts _ _ _ _ _ _ _ _ _ _ is puts (omega arith)
long (Some Enq) report text out beside is puts = short_parts _ _ _ _ _ _ _ _ _ _ is puts (omega arith)
long (Some Eot) report text out beside is puts = short_parts _ _ _ _ _ _ _ _ _ _ is puts (omega arith)
long (Some (Good frame)) report text out beside is puts = by (nat_lt 240 (length frame.text)) refl
  where
    by : (more : Bool) → nat_lt 240 (length frame.text) ≡ more →
        ReportsFrame more frame.number frame.last frame.text out (take beside text)
    by true e =
        let all = long_parts _ _ _ _ _ _ _ _ _ _ is puts (grind (arith, nat_tests, e)) in
        record { parts_are = all.0; beside_is = all.1 }
    by false e =
        let all = short_parts _ _ _ _ _ _ _ _ _ _ is puts (grind (arith, nat_tests, e)) in
        record { parts_are = all.0; beside_is = all.1 }
long (Some (Bad fault)) report text out beside is puts = short_parts _ _ _ _ _ _ _ _ _ _ is puts (omega arith)

-- and so it is with the first signal of bytes
pub usual_fed : (past bytes : List ℕ) (count : ℕ) (report : Report) (out : LisSignal) →
    FedAndReported 240 past bytes count report out.text → Puts report out → FedAndAnswered 240 past bytes count out []
usual_fed past bytes count report out is puts =
    record { signal = is.signal; fed = is.fed; answered = usual is.signal report out is.reported puts }

pub long_fed : (past bytes : List ℕ) (count : ℕ) (report : Report) (text : List ℕ) (out : LisSignal) (beside : ℕ) →
    FedAndReported 63993 past bytes count report text → PutsLong report text out beside →
    FedAndAnswered 63993 past bytes count out (take beside text)
long_fed past bytes count report text out beside is puts =
    record { signal = is.signal; fed = is.fed; answered = long is.signal report text out beside is.reported puts }
