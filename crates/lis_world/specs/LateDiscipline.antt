-- What a program can keep that does not see the link: after a session that timed out or was restarted, it connects the
-- line anew before it starts the next session.
use Rattle.std.specs.Prelude.{◌≡◌, ℕ, Bool, true, false, List, [], ◌∷◌, None, not, ◌&&◌}
use Rattle.lis_link.specs.declared.sender.Phase.{Phase}
use Rattle.lis_link.specs.declared.sender.Phase.TheVariants.{Neutral}
use Rattle.lis_link.specs.Sender.{start_fault}
use Rattle.lis_world.specs.declared.event.Event.TheVariants.{Start}
use Rattle.lis_world.specs.declared.event.LateEvent.{LateEvent}
use Rattle.lis_world.specs.declared.event.LateEvent.TheVariants.{Happens, Reconnect}
use Rattle.lis_world.specs.World.{World, new_world}
use Rattle.lis_world.specs.Safe.{Safe}
use Rattle.lis_world.specs.Late.{after_late_event, late_world, reply_may_come, at_any_time}

-- no session goes on
abbrev pub is_neutral : Phase → Bool
is_neutral Neutral = true
is_neutral phase = false

-- whether the line is new since the last session, after one more event; one that is connected anew during a session is
-- not
abbrev pub is_new_after : LateEvent → World → Bool → Bool
is_new_after (Happens (Start texts)) w is_new = false
is_new_after (Happens event) w is_new = is_new
is_new_after Reconnect w is_new = is_neutral w.sender.phase

-- a session starts on a new line, or after one to which no reply may come
abbrev pub StartsInTime : LateEvent → World → Bool → Type 0
StartsInTime (Happens (Start texts)) w is_new =
    start_fault w.sender texts ≡ None → (reply_may_come w.sender.outcome && not is_new) ≡ false
StartsInTime event w is_new = Unit {0}

-- so do all sessions of these events, whatever else they are
abbrev pub StartInTime : ℕ → List LateEvent → World → Bool → Type 0
StartInTime limit [] w is_new = Unit {0}
StartInTime limit (event ∷ events) w is_new =
    StartsInTime event w is_new
    × StartInTime limit events (after_late_event at_any_time limit event w) (is_new_after event w is_new)

-- then each session is safe; the first one begins on a new line
abbrev pub SafeOnNewLines : ℕ → Type 0
SafeOnNewLines limit =
    (events : List LateEvent) → StartInTime limit events new_world true
    → Safe limit (late_world at_any_time limit events)
