-- What a step of the receiver leaves as it is, and what the computer's state has of it.
use Rattle.std.proofs.Common.{◌≡◌, ℕ, Bool, true, false, Option, None, Some, refl}
use Rattle.lis_frame.specs.declared.scanner.SignalOf.{SignalOf}
use Rattle.lis_frame.specs.declared.scanner.SignalOf.TheVariants.{Enq, Eot, Good, Bad}
use Rattle.lis_frame.specs.Frame.{FrameContent}
use Rattle.lis_text.specs.declared.readiness.Readiness.{Readiness}
use Rattle.lis_text.specs.declared.readiness.Readiness.TheVariants.{Ready}
use Rattle.lis_link.specs.declared.receiver.Note.{Note}
use Rattle.lis_link.specs.declared.receiver.Note.TheVariants.{Accepted, Duplicate, Opened}
use Rattle.lis_link.specs.Receiver.{ReceiverState, ReceiverStep, answered_request, classified, on_classified, heard_by}
use Rattle.lis_link.specs.Receiver.{heard}
use Rattle.lis_world.specs.Session.{with_more}
use Rattle.lis_world.specs.World.{ComputerState, after_note, booked}

-- the stream and the room
abbrev pub LeavesRest : ReceiverState → ReceiverStep → Type 0
LeavesRest r step = (step.after.past ≡ r.past) × (step.after.room ≡ r.room)

request_leaves : (readiness : Readiness) (r : ReceiverState) → LeavesRest r (answered_request readiness r)
request_leaves Ready r = (refl, refl)
request_leaves _ r = (refl, refl)

classified_leaves : (r : ReceiverState) (frame : FrameContent) (note : Note) → LeavesRest r (on_classified r frame note)
classified_leaves r frame (Accepted n) = (refl, refl)
classified_leaves r frame (Duplicate n) = (refl, refl)
classified_leaves r frame _ = (refl, refl)

signal_leaves : {limit : ℕ} (is_open : Bool) (signal : SignalOf limit) (r : ReceiverState)
    → LeavesRest r (heard_by is_open signal r)
signal_leaves true Enq r = request_leaves r.readiness r
signal_leaves true Eot r = (refl, refl)
signal_leaves true (Good frame) r = classified_leaves r frame (classified r frame)
signal_leaves true (Bad fault) r = (refl, refl)
signal_leaves false Enq r = request_leaves r.readiness r
signal_leaves false Eot r = (refl, refl)
signal_leaves false (Good frame) r = (refl, refl)
signal_leaves false (Bad fault) r = (refl, refl)

pub heard_leaves : {limit : ℕ} (signal : Option (SignalOf limit)) (r : ReceiverState) → LeavesRest r (heard signal r)
heard_leaves None r = (refl, refl)
heard_leaves (Some signal) r = signal_leaves r.is_open signal r

keeps_receiver : (s : ℕ) (step : ReceiverStep) (d : ComputerState) (note : Note)
    → (after_note s step note d).receiver ≡ d.receiver
keeps_receiver s step d Opened = refl
keeps_receiver s step d (Accepted n) = refl
keeps_receiver s step d _ = refl

pub booked_after : (s : ℕ) (step : ReceiverStep) (d : ComputerState) → (booked s step d).receiver ≡ step.after
booked_after s step d =
    keeps_receiver s step (record d { receiver = step.after; replies = with_more d.replies step.reply }) step.note
