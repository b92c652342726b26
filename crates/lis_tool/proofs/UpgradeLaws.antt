-- An upgraded capture says the same: its lines are the capture's, perhaps after that of the version.
use Rattle.std.proofs.Common.{◌≡◌, ℕ, ◌+◌, Bool, true, false, List, [], ◌∷◌, ◌++◌, length, refl, sym, ◌∙◌, ap, arith}
use Rattle.std.proofs.Common.{append_assoc, append-nil, length-append}
use Rattle.lis_frame.specs.Stream.{stream_with}
use Rattle.lis_capture.specs.declared.line.CaptureVersion.{CaptureVersion}
use Rattle.lis_capture.specs.declared.line.CaptureVersion.TheVariants.{Unsaid, First, Second}
use Rattle.lis_capture.specs.declared.line.Line.{Line}
use Rattle.lis_capture.specs.declared.line.Line.TheVariants.{Version}
use Rattle.lis_capture.specs.Capture.{Lines, lines_of, version_of}
use Rattle.lis_capture.specs.Encoding.{added_encoding, upgraded, upgraded_lines}
use Rattle.lis_capture.proofs.EncodingLemmas.{AreRead-read_lines, capture-upgraded, upgraded-upgraded_lines}
use Rattle.lis_capture.proofs.EncodingLemmas.{version_of-upgraded_lines}
use Rattle.lis_capture.proofs.VersionLemmas.{Gains, gains-capture}
use Rattle.lis_run.specs.LineOutcome.{Writes, capture_outcome, lines_outcome, lines_text}
use Rattle.lis_engine.specs.Outcome.{whole}
use Rattle.lis_report.specs.Answers.{Outcome}
use Rattle.lis_run.specs.Replay.{difference_count, played, played_line, replay_writes_from, text_count, texts}
use Rattle.lis_run.specs.Replay.{texts_writes}
use Rattle.lis_run.specs.Upgrade.{opening, upgrade, upgrade_writes}
use Rattle.lis_tool.specs.Laws.{UpgradedSaysTheSame, lines_in, number_upgraded, replay_from, version_in}

-- ---- what `upgrade` writes

written-upgraded : (lines : List Line) → lines_text upgrade_writes lines ++ opening lines ≡ upgraded lines
written-upgraded [] = refl
written-upgraded (line ∷ lines) =
    append-nil (lines_text upgrade_writes lines ++ (opening lines ++ added_encoding line))
    ∙ sym (append_assoc (lines_text upgrade_writes lines) (opening lines) (added_encoding line))
    ∙ ap (λ (t : List ℕ). t ++ added_encoding line) (written-upgraded lines)

-- ---- what is played of lines after that of the version

abbrev following_version : List Line → List Line
following_version lines = lines ++ Version ∷ []

played-following : (limit : ℕ) (lines : List Line) → played limit (following_version lines) ≡ played limit lines
played-following limit [] = refl
played-following limit (line ∷ lines) = ap (played_line limit line) (played-following limit lines)

text_count-following : (limit : ℕ) (lines : List Line) → text_count limit (following_version lines)
    ≡ text_count limit lines
text_count-following limit [] = refl
text_count-following limit (line ∷ lines) = rw (text_count-following limit lines)
    (rw (played-following limit lines) refl)

difference_count-following : (limit : ℕ) (lines : List Line)
    → difference_count limit (following_version lines) ≡ difference_count limit lines
difference_count-following limit [] = refl
difference_count-following limit (line ∷ lines) =
    rw (difference_count-following limit lines) (rw (played-following limit lines) refl)

texts-following : (limit : ℕ) (lines : List Line)
    → lines_text (texts_writes limit) (following_version lines) ≡ lines_text (texts_writes limit) lines
texts-following limit [] = refl
texts-following limit (line ∷ lines) = rw (texts-following limit lines) (rw (played-following limit lines) refl)

number-following : (lines : List Line) → length (following_version lines) + 1 ≡ length lines + 2
number-following lines = omega (arith, length-append lines (Version ∷ []))

replay-following : (limit : ℕ) (lines : List Line)
    → lines_text (replay_writes_from 1 limit) (following_version lines) ≡ lines_text (replay_writes_from 2 limit) lines
replay-following limit [] = refl
replay-following limit (line ∷ lines) =
    rw (replay-following limit lines) (rw (played-following limit lines) (rw (number-following lines) refl))

-- ---- what a command writes of lines, and of them after that of the version

abbrev ended : Writes → List Line → Outcome
ended w lines = lines_outcome w false true lines

ended_texts : (limit : ℕ) (lines : List Line)
    → ended (texts_writes limit) (following_version lines) ≡ ended (texts_writes limit) lines
ended_texts limit lines = rw (texts-following limit lines) refl

ended_replay : (limit : ℕ) (lines : List Line)
    → ended (replay_writes_from 1 limit) (following_version lines) ≡ ended (replay_writes_from 2 limit) lines
ended_replay limit lines =
    rw (replay-following limit lines)
    (rw (played-following limit lines)
    (rw (text_count-following limit lines) (rw (difference_count-following limit lines) refl)))

-- by the version of the lines
upgraded_texts : (version : CaptureVersion) (limit : ℕ) (lines : List Line) → Gains version lines
    → ended (texts_writes limit) (upgraded_lines lines) ≡ ended (texts_writes limit) lines
upgraded_texts Unsaid limit lines gains = rw gains refl
upgraded_texts First limit lines gains = ap (ended (texts_writes limit)) gains ∙ ended_texts limit lines
upgraded_texts Second limit lines gains = ap (ended (texts_writes limit)) gains

upgraded_replay : (version : CaptureVersion) (limit : ℕ) (lines : List Line) → Gains version lines
    → ended (replay_writes_from 1 limit) (upgraded_lines lines)
    ≡ ended (replay_writes_from (number_upgraded version) limit) lines
upgraded_replay Unsaid limit lines gains = rw gains refl
upgraded_replay First limit lines gains =
    ap (ended (replay_writes_from 1 limit)) gains ∙ ended_replay limit lines
upgraded_replay Second limit lines gains = ap (ended (replay_writes_from 1 limit)) gains

-- ---- the law

module _ (bytes : List ℕ) (fine : (lines_in bytes).refused ≡ false) where
  abbrev lines : List Line
  lines = (lines_in bytes).lines

  gains : Gains (version_in bytes) lines
  gains = gains-capture (stream_with [] bytes) true

  -- what a command writes of the capture, and of the upgraded one
  before : (w : Writes) → capture_outcome w (stream_with [] bytes) true ≡ ended w lines
  before w = ap (λ (refused : Bool). lines_outcome w refused true lines) fine

  upgrade_is : upgrade bytes ≡ upgraded lines
  upgrade_is = ap whole (before upgrade_writes) ∙ written-upgraded lines

  read_again : lines_in (upgrade bytes) ≡ record { lines = upgraded_lines lines; refused = false }
  read_again =
      ap lines_in upgrade_is ∙ capture-upgraded lines true (AreRead-read_lines (lines_of (stream_with [] bytes) true))

  after : (w : Writes) → capture_outcome w (stream_with [] (upgrade bytes)) true ≡ ended w (upgraded_lines lines)
  after w = ap (λ (r : Lines). lines_outcome w r.refused true r.lines) read_again

  same_bytes : upgrade (upgrade bytes) ≡ upgrade bytes
  same_bytes =
      ap whole (after upgrade_writes) ∙ written-upgraded (upgraded_lines lines) ∙ upgraded-upgraded_lines lines
      ∙ sym upgrade_is

  same_texts : (limit : ℕ) → texts limit (upgrade bytes) ≡ texts limit bytes
  same_texts limit =
      ap whole
      (after (texts_writes limit) ∙ upgraded_texts (version_in bytes) limit lines gains
      ∙ sym (before (texts_writes limit)))

  same_replay : (limit : ℕ)
      → replay_from 1 limit (upgrade bytes) ≡ replay_from (number_upgraded (version_in bytes)) limit bytes
  same_replay limit =
      after (replay_writes_from 1 limit) ∙ upgraded_replay (version_in bytes) limit lines gains
      ∙ sym (before (replay_writes_from (number_upgraded (version_in bytes)) limit))

pub says_the_same : UpgradedSaysTheSame
says_the_same bytes limit fine = (
  ap (λ (r : Lines). r.refused) (read_again bytes fine),
  ap (λ (r : Lines). version_of r.lines) (read_again bytes fine) ∙ version_of-upgraded_lines (lines_in bytes).lines,
  same_bytes bytes fine,
  same_texts bytes fine limit,
  same_replay bytes fine limit,
)
