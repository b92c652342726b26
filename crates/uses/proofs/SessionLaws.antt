-- A session on a line so far, and how it goes on.
use Rattle.std.proofs.Common.{◌≡◌, ◌≢◌, ℕ, ◌+◌, ◌-◌, ◌<◌, List, [], ◌∷◌, ◌++◌, Option, None, Some, refl, ap, subst}
use Rattle.std.proofs.Common.{arith, append_assoc}
use Rattle.lis_text.specs.Control.{ENQ}
use Rattle.lis_link.specs.declared.sender.Outcome.{Outcome}
use Rattle.lis_link.specs.Duties.{timer_seconds}
use Rattle.lis_link.specs.Sender.{SenderState, sender_restarted, started}
use Rattle.uses.specs.Analyzer.{IsSession, MeansNothing, WasSession, closed, finished, quiet, answered, given_up}
use Rattle.uses.specs.Analyzer.{put_out}
use Rattle.uses.specs.Analyzer.{renewal, sender_step_at}
use Rattle.uses.specs.Connection.{LogEvent, GoesOn, most_events, sent, timed, waited}
use Rattle.uses.specs.declared.connection.Event.{Event}
use Rattle.uses.specs.declared.connection.Event.TheVariants.{Closed}
use Rattle.uses.proofs.LoopLaws.{goes_on_then, none_yet}

-- so many events were answered; what follows as a session of this sender is the session's rest
pub record IsSoFar (texts : List (List ℕ)) (first : SenderState) (past now : Option (List LogEvent)) (turn : ℕ)
    (s : SenderState) : Type 0 where
  pub new_line : Option (List LogEvent)
  pub renewed : GoesOn past new_line (renewal first.outcome)
  pub event_log : List LogEvent
  pub done : GoesOn new_line now (sent (ENQ ∷ []) ∷ timed 15 ∷ event_log)
  pub goes_on : (left : ℕ) (rest : List LogEvent) (outcome : Option Outcome) (last : SenderState)
      → turn + left ≡ most_events → IsSession left s rest outcome last
      → IsSession most_events (started 240 texts) (event_log ++ rest) outcome last

pub begun : (texts : List (List ℕ)) (first : SenderState) (past new_line mid now : Option (List LogEvent))
    → GoesOn past new_line (renewal first.outcome) → GoesOn new_line mid (sent (ENQ ∷ []) ∷ [])
    → GoesOn mid now (timed 15 ∷ []) → IsSoFar texts first past now 0 (started 240 texts)
begun texts first past new_line mid now renews asked timing = record {
  new_line = new_line;
  renewed = renews;
  event_log = [];
  done = goes_on_then new_line mid now (sent (ENQ ∷ []) ∷ []) (timed 15 ∷ []) asked timing;
  goes_on = λ left rest outcome last all is. subst (λ (n : ℕ). IsSession n (started 240 texts) rest outcome last)
      (omega (arith, all)) is;
}

-- it ends with these logged events
pub ended : (texts : List (List ℕ)) (first : SenderState) (past now last : Option (List LogEvent)) (turn left : ℕ)
    (s end : SenderState) (rest : List LogEvent) (outcome : Option Outcome)
    → IsSoFar texts first past now turn s → turn + left ≡ most_events → GoesOn now last rest
    → IsSession left s rest outcome end
    → WasSession texts first past last outcome end
ended texts first past now last turn left s end rest outcome so_far all following is = record {
  event_log = so_far.event_log ++ rest;
  done = goes_on_then past so_far.new_line last (renewal first.outcome)
      (sent (ENQ ∷ []) ∷ timed 15 ∷ so_far.event_log ++ rest) so_far.renewed
      (goes_on_then so_far.new_line now last (sent (ENQ ∷ []) ∷ timed 15 ∷ so_far.event_log) rest so_far.done
      following);
  session = so_far.goes_on left rest outcome end all is;
}

-- the line was closed
pub was_closed : (texts : List (List ℕ)) (first : SenderState) (past now last : Option (List LogEvent)) (turn : ℕ)
    (s end : SenderState)
    → IsSoFar texts first past now turn s → turn < most_events → GoesOn now last (waited Closed ∷ [])
    → end ≡ sender_restarted s
    → WasSession texts first past last None end
was_closed texts first past now last turn s end so_far more following restarts =
    ended texts first past now last turn (most_events - turn) s end (waited Closed ∷ []) None so_far
    (omega (arith, more)) following
    (closed (most_events - turn - 1) (omega (arith, more)) refl refl restarts)

-- the sender's session is finished
pub was_finished : (texts : List (List ℕ)) (first : SenderState) (past now mid last : Option (List LogEvent)) (turn : ℕ)
    (s : SenderState) (event : Event)
    → IsSoFar texts first past now turn s → turn < most_events → event ≢ Closed → GoesOn now mid (waited event ∷ [])
    → GoesOn mid last (put_out (sender_step_at event s).emit) → timer_seconds (sender_step_at event s).after.phase
    ≡ None
    → WasSession texts first past last (sender_step_at event s).after.outcome (sender_step_at event s).after
was_finished texts first past now mid last turn s event so_far more still waits puts none =
    ended texts first past now last turn (most_events - turn) s (sender_step_at event s).after
    (waited event ∷ put_out (sender_step_at event s).emit)
    (sender_step_at event s).after.outcome
    so_far (omega (arith, more)) (goes_on_then now mid last (waited event ∷ [])
    (put_out (sender_step_at event s).emit) waits puts)
    (finished (most_events - turn - 1) event (omega (arith, more)) still none refl refl refl)

-- it goes on after an event that means nothing, and after any other
pub goes_on_quiet : (texts : List (List ℕ)) (first : SenderState) (past now mid last : Option (List LogEvent))
    (turn : ℕ)
    (s : SenderState) (event : Event) (seconds : ℕ)
    → IsSoFar texts first past now turn s → event ≢ Closed → GoesOn now mid (waited event ∷ [])
    → GoesOn mid last (put_out (sender_step_at event s).emit)
    → timer_seconds (sender_step_at event s).after.phase ≡ Some seconds
    → MeansNothing s.phase (sender_step_at event s)
    → IsSoFar texts first past last (turn + 1) (sender_step_at event s).after
goes_on_quiet texts first past now mid last turn s event seconds so_far still waits puts some nothing = record {
  new_line = so_far.new_line;
  renewed = so_far.renewed;
  event_log = so_far.event_log ++ waited event ∷ [];
  done = goes_on_then so_far.new_line now last (sent (ENQ ∷ []) ∷ timed 15 ∷ so_far.event_log) (waited event ∷ [])
      so_far.done (goes_on_then now mid last (waited event ∷ []) [] waits (rw nothing.0 at puts));
  goes_on = λ left rest outcome end all is. rw (append_assoc so_far.event_log (waited event ∷ []) rest)
      (so_far.goes_on (left + 1) (waited event ∷ rest) outcome end (omega (arith, all))
      (quiet left event seconds rest refl still some nothing refl is));
}

pub goes_on_answered : (texts : List (List ℕ)) (first : SenderState) (past now mid sent_on last : Option
    (List LogEvent))
    (turn : ℕ) (s : SenderState) (event : Event) (seconds : ℕ)
    → IsSoFar texts first past now turn s → event ≢ Closed → GoesOn now mid (waited event ∷ [])
    → GoesOn mid sent_on (put_out (sender_step_at event s).emit) → GoesOn sent_on last (timed seconds ∷ [])
    → timer_seconds (sender_step_at event s).after.phase ≡ Some seconds
    → ¬ (MeansNothing s.phase (sender_step_at event s))
    → IsSoFar texts first past last (turn + 1) (sender_step_at event s).after
goes_on_answered texts first past now mid sent_on last turn s event seconds so_far still waits puts timing some means =
    let emitted = put_out (sender_step_at event s).emit in
    let answer = waited event ∷ emitted ++ timed seconds ∷ [] in
    record {
      new_line = so_far.new_line;
      renewed = so_far.renewed;
      event_log = so_far.event_log ++ answer;
      done = goes_on_then so_far.new_line now last (sent (ENQ ∷ []) ∷ timed 15 ∷ so_far.event_log) answer so_far.done
          (goes_on_then now sent_on last (waited event ∷ emitted) (timed seconds ∷ [])
          (goes_on_then now mid sent_on (waited event ∷ []) emitted waits puts) timing);
      goes_on = λ left rest outcome end all is. rw (append_assoc so_far.event_log answer rest)
          (so_far.goes_on (left + 1) (answer ++ rest) outcome end (omega (arith, all))
          (answered left event seconds rest refl still some means
          (ap (λ (l : List LogEvent). waited event ∷ l) (append_assoc emitted (timed seconds ∷ []) rest)) is));
    }

-- so many events were answered that no more are waited for
pub was_given_up : (texts : List (List ℕ)) (first : SenderState) (past now : Option (List LogEvent)) (turn : ℕ)
    (s end : SenderState)
    → IsSoFar texts first past now turn s → turn ≡ most_events → end ≡ sender_restarted s
    → WasSession texts first past now None end
was_given_up texts first past now turn s end so_far all restarts =
    ended texts first past now now turn 0 s end [] None so_far (omega (arith, all)) (none_yet now)
    (given_up refl refl refl restarts)
