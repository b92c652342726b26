-- The line that answers late: a reply that comes after the sender's timer or restart is delivered like any other, in
-- whatever phase the sender then is. So it matters when a session starts; that is a parameter here.
use Rattle.std.specs.Prelude.{ℕ, Bool, true, false, List, [], ◌∷◌, length, Option, None, Some, if◌then◌else◌, not}
use Rattle.std.specs.Prelude.{◌==◌, ◌&&◌, ◌||◌}
use Rattle.std.specs.List.{fold}
use Rattle.lis_link.specs.declared.sender.Outcome.{Outcome}
use Rattle.lis_link.specs.declared.sender.Outcome.TheVariants.{Done, TimedOut, SixTries, Restarted}
use Rattle.lis_link.specs.Sender.{on_sender_timer, sender_restarted}
use Rattle.lis_link.specs.Receiver.{receiver_restarted}
use Rattle.lis_world.specs.declared.event.Event.{Event}
use Rattle.lis_world.specs.declared.event.Event.TheVariants.{Start, SenderTimer, RestartSender}
use Rattle.lis_world.specs.declared.event.LateEvent.{LateEvent}
use Rattle.lis_world.specs.declared.event.LateEvent.TheVariants.{Happens, Reconnect}
use Rattle.lis_world.specs.Unit.{Load, ending, Travelling}
use Rattle.lis_world.specs.World.{World, new_world}
use Rattle.lis_world.specs.Steps.{with_sender, sender_steps, after_event}
use Rattle.lis_world.specs.Safe.{Safe}

-- a new line: nothing is on it, and the receiver is restarted
abbrev pub reconnected : World → World
reconnected w = record w { receiver = receiver_restarted w.receiver; units = []; replies = [] }

-- an event of the link, given when a session may start: the sender's timer and its restart leave on the link what is
-- there; all else is as on a line that does not answer late
abbrev pub happens_late : (World → Bool) → ℕ → Event → World → World
happens_late may_start limit (Start texts) w = if may_start w then after_event limit (Start texts) w else w
happens_late may_start limit SenderTimer w = sender_steps {limit = limit} (on_sender_timer w.sender) w
happens_late may_start limit RestartSender w = with_sender (sender_restarted w.sender) w
happens_late may_start limit event w = after_event limit event w

-- one event
abbrev pub after_late_event : (World → Bool) → ℕ → LateEvent → World → World
after_late_event may_start limit (Happens event) w = happens_late may_start limit event w
after_late_event may_start limit Reconnect w = reconnected w

-- a list of events, in order, from the first on
abbrev pub late_world : (World → Bool) → ℕ → List LateEvent → World
late_world may_start limit events = fold (λ w event. after_late_event may_start limit event w) new_world events

-- ---- when a session may start

-- no unit is on the link; no reply is
abbrev pub has_no_unit : World → Bool
has_no_unit w = length w.units == 0

abbrev pub has_no_reply : World → Bool
has_no_reply w = length w.replies == 0

-- the link is empty
abbrev pub is_empty : World → Bool
is_empty w = has_no_unit w && has_no_reply w

-- it holds no reply, and no unit but EOT, which nobody answers
abbrev pub is_ending : Load → Bool
is_ending ending = true
is_ending load = false

abbrev pub only_endings : List Travelling → Bool
only_endings [] = true
only_endings (unit ∷ units) = is_ending unit.load && only_endings units

abbrev pub is_quiet : World → Bool
is_quiet w = only_endings w.units && has_no_reply w

-- whether a reply to what the sender sent may still come, by the outcome of its last session: one that timed out or was
-- restarted may have ended before the reply. A sender without an outcome is that of a new process. The line may be
-- older than the process, so this counts as a restart.
abbrev pub reply_may_come : Option Outcome → Bool
reply_may_come None = true
reply_may_come (Some Done) = false
reply_may_come (Some TimedOut) = true
reply_may_come (Some SixTries) = false
reply_may_come (Some Restarted) = true

-- no reply may come by the last outcome, or the link is quiet
abbrev pub is_answered : World → Bool
is_answered w = not (reply_may_come w.sender.outcome) || is_quiet w

-- at any time
abbrev pub at_any_time : World → Bool
at_any_time w = true

-- ---- the laws

-- the world is safe after every list of events, if sessions start only then
abbrev pub SafeWhere : (World → Bool) → ℕ → Type 0
SafeWhere may_start limit = (events : List LateEvent) → Safe limit (late_world may_start limit events)

-- it is not safe after some list
abbrev pub UnsafeWhere : (World → Bool) → ℕ → Type 0
UnsafeWhere may_start limit = (events : List LateEvent) × (Safe limit (late_world may_start limit events) → ⊥)
