-- A line as a program sees it: what happened on it, and what was done with it.
use Rattle.std.specs.Prelude.{◌≡◌, ℕ, Bool, true, false, List, [], ◌∷◌, ◌++◌, Option, None, Some, ⊤}
use Rattle.uses.specs.declared.connection.Event.{Event}

-- an event was waited for, bytes were sent, the timer was started anew, to run out after so many seconds, the line was
-- connected anew, or a text was to be kept, and was or wasn't
pub data LogEvent : Type 0 where
  waited : Event → LogEvent
  sent : List ℕ → LogEvent
  timed : ℕ → LogEvent
  reconnected : LogEvent
  kept : List ℕ → LogEvent
  not_kept : List ℕ → LogEvent

-- a text was to be kept: whether it was
abbrev pub keeping : List ℕ → Bool → LogEvent
keeping text true = kept text
keeping text false = not_kept text

-- the texts that were kept, oldest first
abbrev pub kept_texts : List LogEvent → List (List ℕ)
kept_texts [] = []
kept_texts (kept text ∷ event_log) = text ∷ kept_texts event_log
kept_texts (not_kept text ∷ event_log) = kept_texts event_log
kept_texts (waited event ∷ event_log) = kept_texts event_log
kept_texts (sent bytes ∷ event_log) = kept_texts event_log
kept_texts (timed seconds ∷ event_log) = kept_texts event_log
kept_texts (reconnected ∷ event_log) = kept_texts event_log

-- Where the logged events on a line are still known, these are the next ones. What isn't known stays unknown.
abbrev pub GoesOn : Option (List LogEvent) → Option (List LogEvent) → List LogEvent → Type 0
GoesOn past None event_log = ⊤
GoesOn None (Some all) event_log = ⊥
GoesOn (Some past) (Some all) event_log = all ≡ past ++ event_log

-- the events that a loop waits for at most: more than come in any life of a line
abbrev pub most_events : ℕ
most_events = 18446744073709551615
