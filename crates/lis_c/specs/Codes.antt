-- The numbers that represent what enums report.
use Rattle.std.specs.Prelude.{ℕ, Option, None, Some}
use Rattle.lis_frame.specs.declared.frame.FrameFault.{FrameFault}
use Rattle.lis_frame.specs.declared.frame.FrameFault.TheVariants as FrameFaults
use Rattle.lis_link.specs.declared.receiver.Note.{Note}
use Rattle.lis_link.specs.declared.receiver.Note.TheVariants as Notes
use Rattle.lis_text.specs.declared.readiness.Readiness.{Readiness}
use Rattle.lis_text.specs.declared.readiness.Readiness.TheVariants.{Ready, Busy, Contending}
use Rattle.lis_link.specs.declared.sender.Outcome.{Outcome}
use Rattle.lis_link.specs.declared.sender.Outcome.TheVariants.{Done, TimedOut, SixTries, Restarted}
use Rattle.lis_link.specs.declared.sender.Phase.{Phase}
use Rattle.lis_link.specs.declared.sender.Phase.TheVariants as Phases

-- why bytes are no frame, and the place of the first forbidden byte of the text
abbrev pub fault_code : FrameFault → ℕ
fault_code FrameFaults.TooLong = 1
fault_code FrameFaults.Shape = 2
fault_code FrameFaults.Number = 3
fault_code (FrameFaults.Text place) = 4
fault_code FrameFaults.Sum = 5

abbrev pub fault_place : FrameFault → ℕ
fault_place FrameFaults.TooLong = 0
fault_place FrameFaults.Shape = 0
fault_place FrameFaults.Number = 0
fault_place (FrameFaults.Text place) = place
fault_place FrameFaults.Sum = 0

-- where a sender is
abbrev pub phase_code : Phase → ℕ
phase_code Phases.Neutral = 0
phase_code Phases.AwaitLine = 1
phase_code Phases.Busy = 2
phase_code Phases.Contention = 3
phase_code Phases.AwaitReply = 4

-- how its last session ended
abbrev pub outcome_code : Option Outcome → ℕ
outcome_code None = 0
outcome_code (Some Done) = 1
outcome_code (Some TimedOut) = 2
outcome_code (Some SixTries) = 3
outcome_code (Some Restarted) = 4

-- how ENQ is answered
abbrev pub readiness_code : Readiness → ℕ
readiness_code Ready = 0
readiness_code Busy = 1
readiness_code Contending = 2

-- what a receiver's step meant, and the frame's number or the fault's code that goes with it, and the fault's place
abbrev pub note_code : Note → ℕ
note_code Notes.Quiet = 0
note_code Notes.Opened = 1
note_code Notes.NotReady = 2
note_code Notes.Ended = 3
note_code (Notes.Accepted number) = 4
note_code (Notes.Duplicate number) = 5
note_code (Notes.OutOfTurn number) = 6
note_code (Notes.Refused fault) = 7
note_code Notes.NoRoom = 8
note_code Notes.TooLong = 9
note_code Notes.TooMany = 10
note_code Notes.OutOfMemory = 11
note_code Notes.TimedOut = 12

abbrev pub note_detail : Note → ℕ
note_detail (Notes.Accepted number) = number
note_detail (Notes.Duplicate number) = number
note_detail (Notes.OutOfTurn number) = number
note_detail (Notes.Refused fault) = fault_code fault
note_detail note = 0

abbrev pub note_place : Note → ℕ
note_place (Notes.Refused fault) = fault_place fault
note_place note = 0

-- the reply byte, 0 for none
abbrev pub reply_code : Option ℕ → ℕ
reply_code None = 0
reply_code (Some byte) = byte
