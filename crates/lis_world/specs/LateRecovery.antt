-- A line that is connected anew carries the next session, whatever came before.
use Rattle.std.specs.Prelude.{ℕ, Bool, true, List, [], ◌∷◌, ◌++◌, map}
use Rattle.lis_world.specs.declared.event.Event.TheVariants.{RestartSender}
use Rattle.lis_world.specs.declared.event.LateEvent.{LateEvent}
use Rattle.lis_world.specs.declared.event.LateEvent.TheVariants.{Happens, Reconnect}
use Rattle.lis_world.specs.World.{World, new_world}
use Rattle.lis_world.specs.Progress.{Round, AreEnough, session_events, IsCarried}
use Rattle.lis_world.specs.Recovery.{AreTexts}
use Rattle.lis_world.specs.Late.{late_world, at_any_time}
use Rattle.lis_world.specs.LateDiscipline.{StartInTime}

-- the sender is restarted, and the line is connected anew
abbrev pub renewal : List LateEvent
renewal = Happens RestartSender ∷ Reconnect ∷ []

-- after these events and these two, a session of texts that a sender takes is carried through, if it has enough rounds
abbrev pub CarriesAfter : (World → Bool) → ℕ → List LateEvent → Type 0
CarriesAfter may_start limit events =
    (texts : List (List ℕ)) (rounds : List Round)
    → AreTexts texts
    → AreEnough limit texts rounds
    → IsCarried limit texts (late_world may_start limit (events ++ renewal))
    (late_world may_start limit ((events ++ renewal) ++ map Happens (session_events texts rounds)))

-- so it is after whatever events, if sessions start only then
abbrev pub CarriesOnNewLine : (World → Bool) → ℕ → Type 0
CarriesOnNewLine may_start limit = (events : List LateEvent) → CarriesAfter may_start limit events

-- and after whatever events, if each session starts on a new line or after one to which no reply may come
abbrev pub CarriesOnNewLines : ℕ → Type 0
CarriesOnNewLines limit =
    (events : List LateEvent) → StartInTime limit events new_world true → CarriesAfter at_any_time limit events
