-- A capture that is played line by line.
use Rattle.std.proofs.Common.{◌≡◌, ℕ, ◌+◌, ◌≤◌, Bool, true, false, List, [], ◌∷◌, None, min}
use Rattle.std.proofs.Common.{Ok, Err, length, refl, sym, ◌∙◌, ap, subst, arith, nat_lt, IfOk}
use Rattle.std.proofs.Common.{if◌then◌else◌, decimal, ◌<◌, ◌^◌}
use Rattle.std.specs.List.{flat_map}
use Rattle.std.specs.Str.{bytes_eq}
use Rattle.std.specs.declared.result.Result.{Result}
use Rattle.lis_frame.specs.Stream.{stream_with}
use Rattle.lis_capture.specs.declared.line.Line.{Line}
use Rattle.lis_capture.specs.declared.line.Line.TheVariants.{FromComputer}
use Rattle.lis_capture.specs.Capture.{capture}
use Rattle.lis_link.specs.Kept.{Kept}
use Rattle.lis_link.specs.Representation.{IsIn}
use Rattle.lis_engine.specs.declared.fault.ToolFault.{ToolFault}
use Rattle.lis_engine.specs.Output.{IsWorking, Out, most_counted}
use Rattle.lis_engine.specs.Runs.{KnownPorts}
use Rattle.lis_engine.specs.Steps.{LineEnds, LineSteps}
use Rattle.lis_engine.proofs.OutputLaws.{nothing_put}
use Rattle.lis_report.specs.Answers.{Report}
use Rattle.lis_run.specs.CaptureRuns.{CaptureRan}
use Rattle.lis_run.specs.declared.playing.Playing.{Playing}
use Rattle.lis_run.specs.inside.Playing.{IsPlaying, playing_writes}
use Rattle.lis_run.specs.Replay.{Played, agrees_at, all_differences, compared_line, difference_count}
use Rattle.lis_run.specs.Replay.{played, played_line, replay_line, replay_writes}
use Rattle.lis_run.specs.Replay.{status_of, texts_at}

one_more : (same : Bool) (n k : ℕ) → n ≤ k → (if same then n else n + 1) ≤ k + 1
one_more true n k few = omega (arith, few)
one_more false n k few = omega (arith, few)

difference_count-few : (limit : ℕ) (lines : List Line) → difference_count limit lines ≤ length lines
difference_count-few limit [] = omega arith
difference_count-few limit (line ∷ lines) =
    omega (
      arith,
      one_more (agrees_at line (played limit lines)) (difference_count limit lines) (length lines)
          (difference_count-few limit lines),
    )

-- what a line means next to the bytes that are heard: its texts, whether it agrees, the replies after it, and its text
abbrev pub Marks : Type 0
Marks = List (List ℕ) × Bool × List ℕ × List ℕ

module _
    {in_lines : Bool} {limit size mode : ℕ} {p : Playing size mode} {lines : List Line}
    (playing : IsPlaying in_lines limit p lines) where
  -- the count of differences, where these bytes of the computer are compared
  pub counted :
      (want : List ℕ) {now : ℕ} → in_lines ≡ true → length lines < 2 ^ 44
      → now ≡ min (if bytes_eq want p.replies.items then p.differences else p.differences + 1) most_counted
      → now ≡ (if bytes_eq want (played limit lines).replies then difference_count limit lines
      else difference_count limit lines + 1)
  counted want compared few now_is =
      omega (
        arith,
        rw (playing.differences_are compared, playing.replies_are compared) at now_is,
        one_more (bytes_eq want (played limit lines).replies) (difference_count limit lines) (length lines)
            (difference_count-few limit lines),
        few,
      )

  -- a line from the computer was compared
  pub played_computer :
      (bytes : List ℕ) {now : Playing size mode} → now.receiver ≡ p.receiver → now.texts ≡ p.texts
      → (in_lines ≡ true → now.replies.items ≡ [])
      → (in_lines ≡ true → now.differences ≡ difference_count limit (FromComputer bytes ∷ lines))
      → IsPlaying in_lines limit now (FromComputer bytes ∷ lines)
  played_computer bytes same texts left_is now_is =
      record {
        receiver_is = rw same playing.receiver_is;
        replies_are = left_is;
        texts_are = omega (arith, texts, playing.texts_are);
        differences_are = now_is;
        few = omega (arith, playing.few);
      }

  -- a line was taken that delivers no text and isn't compared
  pub played_silent :
      (line : Line) {receiver : Kept} (a : Out)
      → ((number : ℕ) (p : Played) → ◌≡◌ {A = Marks}
      (texts_at limit line p, agrees_at line p, (played_line limit line p).replies, replay_line limit number line p)
      ([], true, p.replies, []))
      → IsWorking a → IsIn limit receiver (played limit (line ∷ lines)).receiver
      → LineSteps true (IsPlaying in_lines limit (record p { receiver = receiver }) (line ∷ lines)) a a
      ((playing_writes in_lines limit).line lines line) (Ok tt)
  played_silent line a silent working is_in =
      let is = silent (length lines + 1) (played limit lines) in
      let none = ap (λ (t : Marks). t.0) is in (
        rw (silent_text in_lines none (ap (λ (t : Marks). t.3) is)) (nothing_put a working),
        record {
          receiver_is = is_in;
          replies_are = λ compared. playing.replies_are compared ∙ sym (ap (λ (t : Marks). t.2) is);
          texts_are = omega (arith, playing.texts_are, ap (λ (l : List (List ℕ)). length l) none);
          differences_are = λ compared.
              playing.differences_are compared
              ∙ ap (λ (same : Bool). if same then difference_count limit lines else difference_count limit lines + 1)
              (sym (ap (λ (t : Marks). t.1) is));
          few = omega (arith, playing.few, ap (λ (l : List (List ℕ)). length l) none);
        },
      )
    where
      silent_text :
          (in_lines : Bool) → texts_at limit line (played limit lines) ≡ []
          → replay_line limit (length lines + 1) line (played limit lines) ≡ []
          → (playing_writes in_lines limit).line lines line ≡ []
      silent_text true texts written = written
      silent_text false texts written = ap (λ (l : List (List ℕ)). flat_map (λ text. text) l) texts

-- where the texts alone are reported, a line from the computer writes nothing
pub passed_computer :
    {in_lines : Bool} {limit size mode : ℕ} {p : Playing size mode} {lines : List Line} (bytes : List ℕ) (a : Out)
    → in_lines ≡ false → IsWorking a → IsPlaying in_lines limit p lines
    → LineSteps true (IsPlaying in_lines limit p (FromComputer bytes ∷ lines)) a a
    ((playing_writes in_lines limit).line lines (FromComputer bytes)) (Ok tt)
passed_computer {in_lines = true} bytes a is working playing = cc
passed_computer {in_lines = false} bytes a is working playing =
    (nothing_put a working, played_computer playing bytes refl refl (λ lines. cc) (λ lines. cc))

-- what is written for a line from the computer
pub compared_text :
    (in_lines : Bool) (limit : ℕ) (lines : List Line) (bytes : List ℕ) → in_lines ≡ true
    → compared_line (decimal (length lines + 1)) bytes (played limit lines).replies
    ≡ (playing_writes in_lines limit).line lines (FromComputer bytes)
compared_text true limit lines bytes is = refl
compared_text false limit lines bytes is = cc

-- ---- the end

-- where the texts alone are reported, nothing is written
pub texts_end :
    (in_lines : Bool) (limit : ℕ) (lines : List Line) (a : Out) → in_lines ≡ false → IsWorking a
    → LineEnds ((playing_writes in_lines limit).report lines) a a ((playing_writes in_lines limit).last lines)
    (Ok (record { status = 0; refused = None }))
texts_end true limit lines a is working = cc
texts_end false limit lines a is working = (refl, nothing_put a working)

-- ---- a run

status-few : (differences : ℕ) → (status_of differences).status ≤ 1
status-few differences = by (nat_lt 0 differences)
  where
    by : (some : Bool) → (if some then 1 else 0) ≤ 1
    by true = omega arith
    by false = omega arith

pub replay_status :
    (limit : ℕ) {old new : KnownPorts} (result : Result Report ToolFault)
    → CaptureRan true (replay_writes limit) old new result → IfOk result (λ report. report.status ≤ 1)
replay_status limit {old} {new} (Ok report) ran =
    subst (λ (r : Report). r.status ≤ 1) (sym ran.answer.2)
    (status-few (all_differences limit (capture (stream_with [] ran.given) new.ended).lines))
replay_status limit (Err fault) ran = tt
