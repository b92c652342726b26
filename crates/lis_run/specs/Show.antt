-- What `show` writes: a line for each signal of the stream.
use Rattle.std.specs.Prelude.{◌≡◌, ℕ, Bool, List, [], ◌∷◌, ◌++◌, length, codes, decimal, None, if◌then◌else◌}
use Rattle.hex.specs.Hex.{encode_lower}
use Rattle.lis_frame.specs.declared.frame.FrameFault.{FrameFault}
use Rattle.lis_frame.specs.declared.frame.FrameFault.TheVariants.{TooLong, Shape, Number, Text, Sum}
use Rattle.lis_frame.specs.declared.scanner.SignalOf.{SignalOf}
use Rattle.lis_frame.specs.declared.scanner.SignalOf.TheVariants.{Enq, Eot, Good, Bad}
use Rattle.lis_frame.specs.Frame.{FrameContent}
use Rattle.lis_frame.specs.Stream.{signals}
use Rattle.lis_engine.specs.Outcome.{at_end}
use Rattle.lis_report.specs.Answers.{Outcome, Report}

-- the code of a fault, as it is printed
abbrev pub printed_fault : FrameFault → List ℕ
printed_fault TooLong = codes "F1"
printed_fault Shape = codes "F2"
printed_fault Number = codes "F3"
printed_fault (Text place) = codes "F4 " ++ decimal place
printed_fault Sum = codes "F5"

-- a space and the bytes in hexadecimal digits, where there are any
abbrev pub digits_part : List ℕ → List ℕ
digits_part [] = []
digits_part (b ∷ bytes) = codes " " ++ encode_lower (b ∷ bytes)

-- `frame N end LEN HEX` or `frame N more LEN HEX`
abbrev pub frame_start : ℕ → Bool → List ℕ
frame_start number last = codes "frame " ++ decimal number ++ (if last then codes " end " else codes " more ")

abbrev pub frame_line : FrameContent → List ℕ
frame_line frame =
    frame_start frame.number frame.last ++ decimal (length frame.text) ++ digits_part frame.text ++ codes "\n"

-- `bad CODE`
abbrev pub bad_line : FrameFault → List ℕ
bad_line fault = codes "bad " ++ printed_fault fault ++ codes "\n"

abbrev pub signal_line : {limit : ℕ} → SignalOf limit → List ℕ
signal_line Enq = codes "ENQ\n"
signal_line Eot = codes "EOT\n"
signal_line (Good frame) = frame_line frame
signal_line (Bad fault) = bad_line fault

abbrev pub signal_lines : {limit : ℕ} → List (SignalOf limit) → List ℕ
signal_lines [] = []
signal_lines (signal ∷ signals) = signal_line signal ++ signal_lines signals

-- what is written for the bytes of a stream
abbrev pub show : ℕ → List ℕ → List ℕ
show limit bytes = signal_lines (signals limit bytes)

-- nothing is to be looked at
abbrev pub clean : Report
clean = record { status = 0; refused = None }

-- what bytes give
abbrev pub Shows : ℕ → List ℕ → Bool → Outcome → Type 0
Shows limit bytes ended outcome = outcome ≡ record { text = show limit bytes; closing = []; halt = at_end ended clean }
