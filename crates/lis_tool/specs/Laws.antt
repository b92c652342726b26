-- The statements of the laws.
use Rattle.std.specs.Prelude.{◌≡◌, ℕ, true, false, List, [], Option, None, Some, MatchOption}
use Rattle.std.specs.List.{AllByRecursion, Contains, flat_map}
use Rattle.lis_frame.specs.Stream.{stream_with}
use Rattle.lis_capture.specs.declared.line.CaptureVersion.{CaptureVersion}
use Rattle.lis_capture.specs.declared.line.CaptureVersion.TheVariants.{Unsaid, First, Second}
use Rattle.lis_capture.specs.Capture.{Lines, capture, version_of}
use Rattle.lis_link.specs.declared.sender.Outcome.TheVariants.{Done}
use Rattle.lis_message.specs.Feeding.{ReadsWhole}
use Rattle.lis_message.specs.Stream.{IsSplit}
use Rattle.lis_message_texts.specs.Texts.{FitsInTexts}
use Rattle.lis_message.specs.Writing.{message_bytes, message_texts_of}
use Rattle.lis_run.specs.LineOutcome.{capture_outcome}
use Rattle.lis_report.specs.Answers.{Outcome}
use Rattle.lis_run.specs.Replay.{replay_writes_from, texts}
use Rattle.lis_run.specs.Upgrade.{upgrade}
use Rattle.lis_record_values.specs.declared.faults.MessageFault.{MessageFault}
use Rattle.lis_record_values.specs.declared.faults.Reason.TheVariants as reasons
use Rattle.lis_tree.specs.Tree.{IsTree, MessageTree}
use Rattle.lis_world.specs.declared.event.Event.{Event}
use Rattle.lis_world.specs.declared.event.LateEvent.{LateEvent}
use Rattle.lis_world.specs.Late.{late_world, at_any_time}
use Rattle.lis_world.specs.LateDiscipline.{StartInTime}
use Rattle.lis_world.specs.Session.{Session}
use Rattle.lis_world.specs.Steps.{world}
use Rattle.lis_world.specs.World.{new_world}

-- the lines of a whole capture, and the version that they report
abbrev pub lines_in : List ℕ → Lines
lines_in bytes = capture (stream_with [] bytes) true

abbrev pub version_in : List ℕ → CaptureVersion
version_in bytes = version_of (lines_in bytes).lines

-- the number that the first line of a capture has when it is upgraded: it is after `capture 2`, but for a capture
-- of version 2, whose first line that is
abbrev pub number_upgraded : CaptureVersion → ℕ
number_upgraded Unsaid = 2
number_upgraded First = 2
number_upgraded Second = 1

-- the replay of a whole capture, where its first line has this number: all that is written, and the report
abbrev pub replay_from : (first : ℕ) → ℕ → List ℕ → Outcome
replay_from first limit bytes = capture_outcome (replay_writes_from first limit) (stream_with [] bytes) true

-- A capture of which no line is rejected says the same when it is upgraded: no line is rejected then, it is of version
-- 2, upgraded again it is the same bytes, it has the same texts, and the same replay but for the numbers of its lines.
abbrev pub UpgradedSaysTheSame : Type 0
UpgradedSaysTheSame =
    (bytes : List ℕ) (limit : ℕ) → (lines_in bytes).refused ≡ false
    → ((lines_in (upgrade bytes)).refused ≡ false)
    × (version_in (upgrade bytes) ≡ Second)
    × (upgrade (upgrade bytes) ≡ upgrade bytes)
    × (texts limit (upgrade bytes) ≡ texts limit bytes)
    × (replay_from 1 limit (upgrade bytes) ≡ replay_from (number_upgraded (version_in bytes)) limit bytes)

-- ---- messages over the link

-- what a session delivered, one text after the other
abbrev pub delivered_bytes : Session → List ℕ
delivered_bytes x = flat_map (λ text. text) x.handed

-- One of these sessions is done, and was started with the texts of these messages, one for each of their records.
pub record HasCarried (sessions : List Session) (x : Session) (messages : List MessageTree) : Type 0 where
  pub session : Contains sessions x
  pub done : x.outcome ≡ Some Done
  pub texts : x.texts ≡ flat_map message_texts_of messages
  pub trees : AllByRecursion IsTree messages
  pub fit : AllByRecursion FitsInTexts messages

-- What such a session delivered is the bytes of the messages, which are split into them with nothing left.
abbrev pub Carry : List Session → Type 0
Carry sessions =
    (x : Session) (messages : List MessageTree) → HasCarried sessions x messages
    → (delivered_bytes x ≡ flat_map message_bytes messages) × IsSplit (delivered_bytes x) messages None []

-- And a reader of messages that is fed with it and finished reads these messages, unless it wants memory.
abbrev pub AreReadBack : List Session → Type 0
AreReadBack sessions =
    (x : Session) (messages : List MessageTree) → HasCarried sessions x messages
    → (read : List MessageTree) (fault : Option MessageFault) → ReadsWhole (delivered_bytes x) read fault
    → MatchOption fault (read ≡ messages) (λ f. f.reason ≡ reasons.OutOfMemory)

-- So it is whatever happened on the link.
abbrev pub CarriesMessages : ℕ → Type 0
CarriesMessages limit = (events : List Event) → Carry (world limit events).sessions

abbrev pub ReadsCarried : ℕ → Type 0
ReadsCarried limit = (events : List Event) → AreReadBack (world limit events).sessions

-- And so it is on a line that answers late, if each session starts on a new line or after one to which no reply may
-- come.
abbrev pub CarriesMessagesLate : ℕ → Type 0
CarriesMessagesLate limit =
    (events : List LateEvent) → StartInTime limit events new_world true
    → Carry (late_world at_any_time limit events).sessions

abbrev pub ReadsCarriedLate : ℕ → Type 0
ReadsCarriedLate limit =
    (events : List LateEvent) → StartInTime limit events new_world true
    → AreReadBack (late_world at_any_time limit events).sessions
