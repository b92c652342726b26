-- The lines of signals, one after the other.
use Rattle.std.proofs.Common.{◌≡◌, ℕ, Bool, true, false, List, [], ◌∷◌, ◌++◌, Option, None, Some, Ok, Err, IfOk, refl}
use Rattle.std.proofs.Common.{ap, sym, subst, ◌∙◌, append-nil, append_assoc, length, take, drop, take-append-drop}
use Rattle.std.proofs.Common.{codes}
use Rattle.lis_frame.specs.declared.scanner.SignalOf.{SignalOf}
use Rattle.lis_frame.specs.Stream.{signals_after, stream_with}
use Rattle.lis_frame.proofs.StreamLaws.{signals_after-append, stream_with-append}
use Rattle.lis_frame.specs.Frame.{FrameContent}
use Rattle.lis_frame.specs.Scanner.{borrowed_signals}
use Rattle.hex.specs.Hex.{encode_lower}
use Rattle.std.specs.declared.result.Result.{Result}
use Rattle.std.specs.Io.KnownBytes.{Appends}
use Rattle.lis_engine.specs.declared.fault.ToolFault.{ToolFault}
use Rattle.lis_engine.specs.declared.fault.ToolFault.TheVariants.{CaptureLine, Read, Write, OutOfMemory, TooManyReads}
use Rattle.lis_report.specs.Answers.{Report}
use Rattle.lis_engine.specs.Outcome.{at_end, whole}
use Rattle.lis_report.specs.Answers.{Outcome}
use Rattle.lis_engine.specs.Parts.{text_if_any}
use Rattle.lis_engine.specs.Output.{Broke, IsWorking, Out, WentOn, WentOut}
use Rattle.lis_engine.proofs.OutputLaws.{breaks_on, nothing_put, put_on}
use Rattle.lis_engine.specs.Runs.{HasRun, KnownPorts, Ran, Shown, WroteOutcome, WroteText}
use Rattle.lis_run.specs.Show.{Shows, clean, digits_part, frame_line, show, signal_line, signal_lines}

pub signal_lines-append :
    {limit : ℕ} (xs ys : List (SignalOf limit)) → signal_lines (xs ++ ys) ≡ signal_lines xs ++ signal_lines ys
signal_lines-append [] ys = refl
signal_lines-append (signal ∷ xs) ys =
    ap (λ (l : List ℕ). signal_line signal ++ l) (signal_lines-append xs ys)
    ∙ sym (append_assoc (signal_line signal) (signal_lines xs) (signal_lines ys))

-- the lines of a stream read in two parts
pub lines-append :
    (limit : ℕ) (past xs ys : List ℕ) →
    signal_lines (signals_after limit past (xs ++ ys))
    ≡ signal_lines (signals_after limit past xs) ++ signal_lines (signals_after limit (stream_with past xs) ys)
lines-append limit past xs ys = ap signal_lines (signals_after-append limit xs ys past)
    ∙ signal_lines-append (signals_after limit past xs) _

-- the line of a frame that was read at the front
pub frame_lines :
    (limit : ℕ) (past bytes : List ℕ) (o : Option FrameContent) → signals_after limit past bytes ≡ borrowed_signals o
    → text_if_any frame_line o ≡ signal_lines (signals_after limit past bytes)
frame_lines limit past bytes None is = ap signal_lines (sym is)
frame_lines limit past bytes (Some frame) is = sym (append-nil (frame_line frame)) ∙ ap signal_lines (sym is)

pub digits_here : (bytes : List ℕ) → (length bytes ≡ 0 → ⊥) → digits_part bytes ≡ codes " " ++ encode_lower bytes
digits_here [] some = absurd (some refl)
digits_here (b ∷ bytes) some = refl

pub front_stream : (n : ℕ) (past bytes : List ℕ)
    → stream_with (stream_with past (take n bytes)) (drop n bytes) ≡ stream_with past bytes
front_stream n past bytes = sym (stream_with-append (take n bytes) (drop n bytes) past)
    ∙ ap (stream_with past) (take-append-drop n bytes)

-- ---- while bytes are read

-- the lines of the bytes before the rest were put
pub record IsShown (limit : ℕ) (represents : List ℕ → Type 0) (old here : Out) (past bytes rest : List ℕ) : Type 0 where
  pub read : List ℕ
  pub represented : represents read
  pub same : stream_with read rest ≡ stream_with past bytes
  pub more : List ℕ
  pub put : WentOn old here more
  pub joined : more ++ signal_lines (signals_after limit read rest) ≡ signal_lines (signals_after limit past bytes)

pub nothing_shown : (limit : ℕ) {represents : List ℕ → Type 0} {out : Out} {past bytes : List ℕ} → represents past
    → IsWorking out → IsShown limit represents out out past bytes bytes
nothing_shown limit {out = out} {past} represents working = record {
  read = past;
  represented = represents;
  same = refl;
  more = [];
  put = nothing_put out working;
  joined = refl;
}

pub all_shown :
    {limit : ℕ} {represents : List ℕ → Type 0} {old here : Out} {past bytes rest : List ℕ}
    → IsShown limit represents old here past bytes rest → length rest ≡ 0
    → WentOn old here (signal_lines (signals_after limit past bytes)) × represents (stream_with past bytes)
all_shown {limit} {represents} {old} {here} {rest = []} s none = (
  subst (λ (t : List ℕ). WentOn old here t) (sym (append-nil s.more) ∙ s.joined) s.put,
  subst represents s.same s.represented,
)
all_shown {rest = b ∷ rest} s none = cc

-- so many bytes more
module _
    {limit : ℕ} {represents : List ℕ → Type 0} {old here : Out} {past bytes rest : List ℕ} (n : ℕ)
    (s : IsShown limit represents old here past bytes rest) where
  joined_now : (s.more ++ signal_lines (signals_after limit s.read (take n rest)))
      ++ signal_lines (signals_after limit (stream_with s.read (take n rest)) (drop n rest))
      ≡ signal_lines (signals_after limit past bytes)
  joined_now =
      let both = rw (take-append-drop n rest) at (lines-append limit s.read (take n rest) (drop n rest)) in
      append_assoc s.more _ _ ∙ ap (λ (t : List ℕ). s.more ++ t) (sym both) ∙ s.joined

  pub shown_on :
      {now : List ℕ → Type 0} {next : Out} → now (stream_with s.read (take n rest))
      → WentOn here next (signal_lines (signals_after limit s.read (take n rest)))
      → IsShown limit now old next past bytes (drop n rest)
  shown_on {next = next} represented_now put = record {
    read = stream_with s.read (take n rest);
    represented = represented_now;
    same = front_stream n s.read rest ∙ s.same;
    more = s.more ++ signal_lines (signals_after limit s.read (take n rest));
    put = put_on old here next (Ok tt) s.more (signal_lines (signals_after limit s.read (take n rest))) s.put put;
    joined = joined_now;
  }

  pub show_stops :
      {next : Out} (fault : ToolFault)
      → Broke here next fault (signal_lines (signals_after limit s.read (take n rest)))
      → Broke old next fault (signal_lines (signals_after limit past bytes))
  show_stops {next} fault broke =
      subst (λ (t : List ℕ). Broke old next fault t) joined_now
      (breaks_on old next fault (s.more ++ signal_lines (signals_after limit s.read (take n rest))) _
      (put_on old here next (Err fault) s.more (signal_lines (signals_after limit s.read (take n rest))) s.put broke))

-- ---- a run

-- the text of the bytes so far, and the lines of more bytes
pub shown_more :
    (limit : ℕ) (past more text : List ℕ) → text ≡ show limit past
    → text ++ signal_lines (signals_after limit (stream_with [] past) more) ≡ show limit (past ++ more)
shown_more limit past more text is =
    ap (λ (t : List ℕ). t ++ signal_lines (signals_after limit (stream_with [] past) more)) is
    ∙ sym (lines-append limit [] past more)

-- what a run that shows says about the text of the bytes
pub shown_ran :
    (limit : ℕ) (old new : KnownPorts) (result : Result Report ToolFault) → HasRun false (Shows limit) old new result
    → Shown (show limit) old new result
shown_ran limit old new result ran =
    record { given = ran.given; read = ran.read; wrote = text_of result ran.wrote }
  where
    text_is : ran.outcome.text ≡ show limit ran.given
    text_is = ap (λ (o : Outcome). o.text) ran.meant

    whole_is : whole ran.outcome ≡ show limit ran.given
    whole_is = ap whole ran.meant ∙ append-nil (show limit ran.given)

    text_of : (r : Result Report ToolFault) → WroteOutcome false r ran.outcome old.taken new.taken
        → WroteText old.taken new.taken r (show limit ran.given)
    text_of (Ok report) wrote = subst (λ (t : List ℕ). Appends old.taken new.taken t) whole_is wrote.1
    text_of (Err Read) wrote = subst (λ (t : List ℕ). Appends old.taken new.taken t) text_is wrote.1
    text_of (Err TooManyReads) wrote = subst (λ (t : List ℕ). Appends old.taken new.taken t) text_is wrote.1
    text_of (Err (Write written)) wrote =
        (wrote.0, subst (λ (t : List ℕ). WentOut old.taken new.taken 0 written t wrote.0) whole_is wrote.1)
    text_of (Err (CaptureLine line)) wrote = absurd
        (no_line new.ended (sym (ap (λ (o : Outcome). o.halt) ran.meant) ∙ wrote.0))
      where
        no_line : (e : Bool) → at_end e clean ≡ Some (Err (CaptureLine line)) → ⊥
        no_line true is = cc
        no_line false is = cc
    text_of (Err OutOfMemory) wrote = absurd (not_taken wrote.0)
      where
        not_taken : false ≡ true → ⊥
        not_taken is = cc

-- and of its status
pub shown_status :
    (limit : ℕ) {left_old left_new taken_old taken_new : Option (List ℕ)} {ended : Bool}
    (result : Result Report ToolFault)
    → Ran false (Shows limit) left_old left_new taken_old taken_new ended result
    → IfOk result (λ report. report.status ≡ 0)
shown_status limit {ended = ended} (Ok report) ran =
    status_of ended (sym (ap (λ (o : Outcome). o.halt) ran.meant) ∙ ran.wrote.0)
  where
    status_of : (e : Bool) → at_end e clean ≡ Some (Ok report) → report.status ≡ 0
    status_of true is = cc
    status_of false is = cc
shown_status limit (Err fault) ran = tt
