-- What `replay` and `texts` write of a capture: a new receiver hears what the analyzer sent, what it replies is
-- compared with what the computer sent, and the texts that it delivers are reported.
use Rattle.std.specs.Prelude.{ℕ, ◌+◌, nat_lt, Bool, true, List, [], ◌∷◌, ◌++◌, length, codes, decimal, None}
use Rattle.std.specs.Prelude.{if◌then◌else◌}
use Rattle.std.specs.List.{flat_map}
use Rattle.std.specs.Option.{option_to_list}
use Rattle.std.specs.Str.{bytes_eq}
use Rattle.hex.specs.Hex.{encode_lower}
use Rattle.lis_frame.specs.Stream.{stream_with}
use Rattle.lis_link.specs.Receiver.{ReceiverState, new_receiver, on_byte, on_receiver_timer, receiver_restarted}
use Rattle.lis_link.specs.Receiver.{with_readiness}
use Rattle.lis_capture.specs.declared.line.Line.{Line}
use Rattle.lis_capture.specs.declared.line.Line.TheVariants.{Empty, FromAnalyzer, FromComputer, Timer, Restart}
use Rattle.lis_capture.specs.declared.line.Line.TheVariants.{SetReady, Version}
use Rattle.lis_report.specs.Answers.{Report}
use Rattle.lis_run.specs.LineOutcome.{Writes, capture_outcome}
use Rattle.lis_engine.specs.Outcome.{whole}
use Rattle.lis_engine.specs.Parts.{joined}
use Rattle.lis_run.specs.Show.{clean}

-- ---- the receiver

-- the receiver after bytes, its replies to them, and the texts that it delivers
abbrev pub having_heard : ℕ → ReceiverState → List ℕ → ReceiverState
having_heard limit r [] = r
having_heard limit r (b ∷ bytes) = having_heard limit (on_byte limit b r).after bytes

abbrev pub replies : ℕ → ReceiverState → List ℕ → List ℕ
replies limit r [] = []
replies limit r (b ∷ bytes) = option_to_list (on_byte limit b r).reply ++ replies limit (on_byte limit b r).after bytes

abbrev pub delivered : ℕ → ReceiverState → List ℕ → List (List ℕ)
delivered limit r [] = []
delivered limit r (b ∷ bytes) = option_to_list (on_byte limit b r).message ++ delivered limit (on_byte limit b r).after
    bytes

-- what is known after lines: the receiver, and its replies since the last line from the computer
pub record Played : Type 0 where
  pub receiver : ReceiverState
  pub replies : List ℕ

-- a line of the analyzer's bytes is heard; one of the computer's ends the replies that it is compared with
abbrev pub played_line : ℕ → Line → Played → Played
played_line limit (FromAnalyzer bytes) p =
    record { receiver = having_heard limit p.receiver bytes; replies = p.replies ++ replies limit p.receiver bytes }
played_line limit (FromComputer bytes) p = record p { replies = [] }
played_line limit Timer p = record p { receiver = (on_receiver_timer p.receiver).after }
played_line limit Restart p = record p { receiver = receiver_restarted p.receiver }
played_line limit (SetReady readiness) p = record p { receiver = with_readiness readiness p.receiver }
played_line limit Empty p = p
played_line limit Version p = p

-- a new receiver, after lines, newest first
abbrev pub played : ℕ → List Line → Played
played limit [] = record { receiver = new_receiver; replies = [] }
played limit (line ∷ lines) = played_line limit line (played limit lines)

-- the texts that a line delivers
abbrev pub texts_at : ℕ → Line → Played → List (List ℕ)
texts_at limit (FromAnalyzer bytes) p = delivered limit p.receiver bytes
texts_at limit line p = []

-- whether a line has no difference: only one from the computer may differ from the replies collected
abbrev pub agrees_at : Line → Played → Bool
agrees_at (FromComputer bytes) p = bytes_eq bytes p.replies
agrees_at line p = true

-- ---- replay

-- `text LINE LEN`
abbrev pub text_line : ℕ → List ℕ → List ℕ
text_line number text = joined (codes "text " ∷ decimal number ∷ codes " " ∷ decimal (length text) ∷ codes "\n" ∷ [])

-- hexadecimal digits, or `-` for no byte
abbrev pub digits_or_dash : List ℕ → List ℕ
digits_or_dash [] = codes "-"
digits_or_dash (b ∷ bytes) = encode_lower (b ∷ bytes)

-- `difference PLACE WANT GOT`
abbrev pub difference_line : List ℕ → List ℕ → List ℕ → List ℕ
difference_line place want got =
    joined (codes "difference " ∷ place ∷ codes " " ∷ digits_or_dash want ∷ codes " " ∷ digits_or_dash got
    ∷ codes "\n" ∷ [])

-- that of the computer's bytes next to the replies, where they differ
abbrev pub compared_line : List ℕ → List ℕ → List ℕ → List ℕ
compared_line place want got = if bytes_eq want got then [] else difference_line place want got

-- what a line of this number writes, after what was played
abbrev pub replay_line : ℕ → ℕ → Line → Played → List ℕ
replay_line limit number (FromAnalyzer bytes) p = flat_map (text_line number) (delivered limit p.receiver bytes)
replay_line limit number (FromComputer bytes) p = compared_line (decimal number) bytes p.replies
replay_line limit number line p = []

-- how many texts were delivered
abbrev pub text_count : ℕ → List Line → ℕ
text_count limit [] = 0
text_count limit (line ∷ lines) = text_count limit lines + length (texts_at limit line (played limit lines))

-- how many lines from the computer differed
abbrev pub difference_count : ℕ → List Line → ℕ
difference_count limit [] = 0
difference_count limit (line ∷ lines) =
    if agrees_at line (played limit lines) then difference_count limit lines else difference_count limit lines + 1

-- `texts N differences D`
abbrev pub counts_line : ℕ → ℕ → List ℕ
counts_line texts differences = joined (codes "texts " ∷ decimal texts ∷ codes " differences " ∷ decimal differences
    ∷ codes "\n" ∷ [])

-- how many differences there are, with that at the end: replies that are left there differ from none
abbrev pub all_differences : ℕ → List Line → ℕ
all_differences limit lines =
    if bytes_eq [] (played limit lines).replies then difference_count limit lines else difference_count limit lines + 1

-- 1 where there is a difference
abbrev pub status_of : ℕ → Report
status_of differences = record { status = if nat_lt 0 differences then 1 else 0; refused = None }

-- what is written for each line and at the end, and the report, where the first line has this number
abbrev pub replay_writes_from : (first : ℕ) → ℕ → Writes
replay_writes_from first limit =
    record {
      line = λ lines line. replay_line limit (length lines + first) line (played limit lines);
      last = λ lines. compared_line (codes "end") [] (played limit lines).replies
          ++ counts_line (text_count limit lines) (all_differences limit lines);
      report = λ lines. status_of (all_differences limit lines);
    }

-- lines are numbered from 1
abbrev pub replay_writes : ℕ → Writes
replay_writes limit = replay_writes_from 1 limit

-- ---- texts

-- the texts as they are, with nothing between them
abbrev pub texts_writes : ℕ → Writes
texts_writes limit =
    record {
      line = λ lines line. flat_map (λ text. text) (texts_at limit line (played limit lines));
      last = λ lines. [];
      report = λ lines. clean;
    }

-- all that is written of a capture
abbrev pub texts : ℕ → List ℕ → List ℕ
texts limit bytes = whole (capture_outcome (texts_writes limit) (stream_with [] bytes) true)
