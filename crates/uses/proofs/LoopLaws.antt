-- Logged events on a line that is known or isn't.
use Rattle.std.proofs.Common.{List, [], ◌++◌, Option, None, Some, ◌∙◌, ap, sym, append_assoc, append-nil}
use Rattle.uses.specs.Connection.{LogEvent, GoesOn}

-- nothing was done
pub none_yet : (past : Option (List LogEvent)) → GoesOn past past []
none_yet None = record {}
none_yet (Some past) = sym (append-nil past)

-- none after logged events
pub goes_on_none : (past now : Option (List LogEvent)) (event_log : List LogEvent) → GoesOn past now event_log
    → GoesOn past now (event_log ++ [])
goes_on_none past now event_log done = rw (append-nil event_log) done

-- logged events after logged events
pub goes_on_then : (past now last : Option (List LogEvent)) (event_log more : List LogEvent) → GoesOn past now event_log
    → GoesOn now last more
    → GoesOn past last (event_log ++ more)
goes_on_then past now None event_log more done following = record {}
goes_on_then past None (Some last) event_log more done following = elim following [ ]
goes_on_then None (Some now) (Some last) event_log more done following = elim done [ ]
goes_on_then (Some past) (Some now) (Some last) event_log more done following =
    following ∙ ap (λ (l : List LogEvent). l ++ more) done ∙ append_assoc past event_log more
