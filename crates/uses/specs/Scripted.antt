-- What the log of a line in memory says.
use Rattle.std.specs.Prelude.{Bool, true, false, List, [], ◌∷◌, Option, None, Some, map}
use Rattle.uses.specs.declared.connection.Event.{Event}
use Rattle.uses.specs.declared.connection.Event.TheVariants.{Closed}
use Rattle.uses.specs.declared.testing.Entry.{Entry}
use Rattle.uses.specs.declared.testing.Entry.TheVariants as entries
use Rattle.uses.specs.Connection.{LogEvent, kept, not_kept, reconnected, sent, timed, waited}

abbrev pub log_event_of : Entry → LogEvent
log_event_of (entries.Waited event) = waited event
log_event_of (entries.Sent bytes) = sent bytes.items
log_event_of (entries.Timed seconds) = timed seconds
log_event_of entries.Reconnected = reconnected
log_event_of (entries.Kept text) = kept text.items
log_event_of (entries.NotKept text) = not_kept text.items

-- the logged events of a log, if it is whole
abbrev pub log_of : Bool → List Entry → Option (List LogEvent)
log_of true log = Some (map log_event_of log)
log_of false log = None

-- the next event of a script; after the last one the line is closed
abbrev pub next_event : List Event → Event
next_event [] = Closed
next_event (event ∷ events) = event

-- whether the store keeps the next text; after the last answer it does
abbrev pub next_answer : List Bool → Bool
next_answer [] = true
next_answer (answer ∷ answers) = answer
