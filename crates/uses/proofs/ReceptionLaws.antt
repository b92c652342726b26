-- Receiving on a line so far, and how it goes on.
use Rattle.std.proofs.Common.{◌≡◌, ◌≢◌, ℕ, ◌+◌, ◌-◌, ◌<◌, Bool, ◌⊎◌, inl, inr, List, [], ◌∷◌, ◌++◌}
use Rattle.std.proofs.Common.{Option, None, Some, refl, sym, ap, ◌∙◌, subst, arith, append_assoc, append-nil}
use Rattle.std.specs.Option.{option_to_list}
use Rattle.lis_link.specs.declared.receiver.Note.{Note}
use Rattle.lis_link.specs.declared.receiver.Note.TheVariants as Notes
use Rattle.lis_link.specs.declared.receiver.Step.{Step}
use Rattle.lis_link.specs.Kept.{Kept}
use Rattle.lis_link.specs.Representation.{IsIn, RefusesFrame, IsStepMade}
use Rattle.lis_link.specs.Joining.{groups}
use Rattle.lis_link.specs.Receiver.{ReceiverState, on_byte, on_receiver_timer, receiver_restarted}
use Rattle.uses.specs.Computer.{AcknowledgedIsKept, IsReception, WasReception, acknowledged, closed, given_up}
use Rattle.uses.specs.Computer.{answer_log, goes_on, made, refused, unanswered}
use Rattle.uses.specs.inside.Computer.{Answers}
use Rattle.uses.specs.Connection.{LogEvent, GoesOn, kept, most_events, not_kept, waited}
use Rattle.uses.specs.declared.connection.Event.{Event}
use Rattle.uses.specs.declared.connection.Event.TheVariants.{Byte, Timer, Closed}
use Rattle.uses.proofs.KeepingLaws.{answer_grows, is_still_kept, none_by_answer, restart_grows}
use Rattle.uses.proofs.LoopLaws.{goes_on_none, goes_on_then, none_yet}

-- memory ran out or wasn't
is_out_of_memory : (note : Note) → (note ≡ Notes.OutOfMemory) ⊎ (note ≢ Notes.OutOfMemory)
is_out_of_memory Notes.OutOfMemory = inl refl
is_out_of_memory note = inr (λ e. cc)

-- the answer to a byte, and to the timer
pub answers_byte : (byte spare : ℕ) (r : ReceiverState) (answer : Step) (new : Kept)
    → (answer.note ≢ Notes.OutOfMemory → IsStepMade 240 (on_byte 240 byte r) answer new)
    → (answer.note ≡ Notes.OutOfMemory → RefusesFrame 240 spare (on_byte 240 byte r)
    (record r { past = byte ∷ r.past }) answer new)
    → Answers (Byte byte) r answer new
answers_byte byte spare r answer new makes refuses = elim (is_out_of_memory answer.note) [
  | inl out ↦
      let was = refuses out in
      record {
        after = record r { past = byte ∷ r.past };
        answer = refused byte was.frame refl was.would_accept refl
            (record { reply_is = was.reply_is; message_is = was.message_is; note_is = out });
        state = was.state;
      }
  | inr fine ↦
      record { after = (on_byte 240 byte r).after; answer = made (makes fine).answer refl; state = (makes fine).state }
]

pub answers_timer : (r : ReceiverState) (answer : Step) (new : Kept) → IsStepMade 240 (on_receiver_timer r) answer new
    → Answers Timer r answer new
answers_timer r answer new makes = record
    { after = (on_receiver_timer r).after; answer = made makes.answer refl; state = makes.state }

-- so many events were answered; what follows for the receiver that is kept is the rest
pub record IsSoFar (first : ReceiverState) (past now : Option (List LogEvent)) (turn : ℕ) (kept_now : Kept) : Type 0
  where
    pub event_log : List LogEvent
    pub done : GoesOn past now event_log
    pub r : ReceiverState
    pub state : IsIn 240 kept_now r
    pub acknowledged_is_kept : AcknowledgedIsKept past first → AcknowledgedIsKept now r
    pub following : (left : ℕ) (rest : List LogEvent) (text : Option (List ℕ)) (last : ReceiverState) → turn + left
        ≡ most_events
        → IsReception left r rest text last → IsReception most_events first (event_log ++ rest) text last

pub begun : (first : ReceiverState) (past : Option (List LogEvent)) (kept_now : Kept) → IsIn 240 kept_now first
    → IsSoFar first past past 0 kept_now
begun first past kept_now state = record {
  event_log = [];
  done = none_yet past;
  r = first;
  state = state;
  acknowledged_is_kept = λ is. is;
  following = λ left rest text last all is. subst (λ (n : ℕ). IsReception n first rest text last) (omega (arith, all))
      is;
}

-- nothing is acknowledged by an event of a closed line
stays_kept : (r : ReceiverState) (now last : Option (List LogEvent)) → GoesOn now last (waited Closed ∷ [])
    → AcknowledgedIsKept now r → AcknowledgedIsKept last r
stays_kept r now last waits =
    is_still_kept now last (waited Closed ∷ []) r r [] waits refl
    (λ is. inr (is, sym (append-nil (groups [] r.accepted))))

-- the line was closed
pub was_closed : (first : ReceiverState) (past now last : Option (List LogEvent)) (turn : ℕ) (kept_now : Kept)
    → IsSoFar first past now turn kept_now → turn < most_events → GoesOn now last (waited Closed ∷ [])
    → WasReception first past last None kept_now
was_closed first past now last turn kept_now so_far more waits = record {
  event_log = so_far.event_log ++ waited Closed ∷ [];
  done = goes_on_then past now last so_far.event_log (waited Closed ∷ []) so_far.done waits;
  last = so_far.r;
  reception = so_far.following (most_events - turn) (waited Closed ∷ []) None so_far.r (omega (arith, more))
      (closed (most_events - turn - 1) (omega (arith, more)) refl refl refl);
  acknowledged_is_kept = λ is. stays_kept so_far.r now last waits (so_far.acknowledged_is_kept is);
  state = so_far.state;
}

-- a text is whole and kept, and the reply is sent
pub was_acknowledged : (first : ReceiverState) (past now heard last : Option (List LogEvent)) (turn : ℕ)
    (kept_now new end : Kept) (event : Event) (answer : Step) (text : List ℕ)
    → IsSoFar first past now turn kept_now → turn < most_events → event ≢ Closed
    → ((r : ReceiverState) → IsIn 240 kept_now r → Answers event r answer new) → answer.message ≡ Some text
    → GoesOn now heard (waited event ∷ [])
    → ((r : ReceiverState) → IsIn 240 new r
    → GoesOn heard last (kept text ∷ answer_log answer r.is_open) × IsIn 240 end r)
    → WasReception first past last (Some text) end
was_acknowledged first past now heard last turn kept_now new end event answer text so_far more still answering is waits
    keeps =
    let given = answering so_far.r so_far.state in
    let keeping = keeps given.after given.state in
    let event_log = waited event ∷ kept text ∷ answer_log answer given.after.is_open in
    let doing : GoesOn now last event_log =
    goes_on_then now heard last (waited event ∷ []) (kept text ∷ answer_log answer given.after.is_open) waits
    keeping.0 in
    record {
      event_log = so_far.event_log ++ event_log;
      done = goes_on_then past now last so_far.event_log event_log so_far.done doing;
      last = given.after;
      reception = so_far.following (most_events - turn) event_log (Some text) given.after (omega (arith, more))
          (acknowledged (most_events - turn - 1) event answer text (omega (arith, more)) still given.answer is refl
          refl);
      acknowledged_is_kept = λ before. is_still_kept now last event_log so_far.r given.after
          (option_to_list answer.message)
          doing (ap (λ t. text ∷ t) (none_by_answer answer given.after.is_open) ∙ ap option_to_list (sym is))
          (answer_grows event so_far.r answer given.after given.answer) (so_far.acknowledged_is_kept before);
      state = keeping.1;
    }

-- a text is whole and can't be kept: the receiver restarts
pub goes_on_unanswered : (first : ReceiverState) (past now heard last : Option (List LogEvent)) (turn : ℕ)
    (kept_now new restarted : Kept) (event : Event) (answer : Step) (text : List ℕ)
    → IsSoFar first past now turn kept_now → event ≢ Closed
    → ((r : ReceiverState) → IsIn 240 kept_now r → Answers event r answer new) → answer.message ≡ Some text
    → GoesOn now heard (waited event ∷ [])
    → ((r : ReceiverState) → IsIn 240 new r
    → GoesOn heard last (not_kept text ∷ []) × IsIn 240 restarted (receiver_restarted r))
    → IsSoFar first past last (turn + 1) restarted
goes_on_unanswered first past now heard last turn kept_now new restarted event answer text so_far still answering is
    waits keeps =
    let given = answering so_far.r so_far.state in
    let keeping = keeps given.after given.state in
    let event_log = waited event ∷ not_kept text ∷ [] in
    let doing : GoesOn now last event_log =
    goes_on_then now heard last (waited event ∷ []) (not_kept text ∷ []) waits keeping.0 in
    record {
      event_log = so_far.event_log ++ event_log;
      done = goes_on_then past now last so_far.event_log event_log so_far.done doing;
      r = receiver_restarted given.after;
      state = keeping.1;
      acknowledged_is_kept = λ before. is_still_kept now last event_log so_far.r (receiver_restarted given.after) []
          doing
          refl (restart_grows so_far.r given.after []) (so_far.acknowledged_is_kept before);
      following = λ left rest text_end end all next. rw (append_assoc so_far.event_log event_log rest)
          (so_far.following (left + 1) (event_log ++ rest) text_end end (omega (arith, all))
          (unanswered left event answer text given.after rest refl still given.answer is refl next));
    }

-- no text is whole
pub goes_on_following : (first : ReceiverState) (past now heard last : Option (List LogEvent)) (turn : ℕ)
    (kept_now new : Kept) (event : Event) (answer : Step) (is_open : Bool)
    → IsSoFar first past now turn kept_now → event ≢ Closed
    → ((r : ReceiverState) → IsIn 240 kept_now r → Answers event r answer new)
    → ((r : ReceiverState) → IsIn 240 new r → is_open ≡ r.is_open)
    → answer.message ≡ None → GoesOn now heard (waited event ∷ []) → GoesOn heard last (answer_log answer is_open)
    → IsSoFar first past last (turn + 1) new
goes_on_following first past now heard last turn kept_now new event answer is_open so_far still answering opens none
    waits
    puts =
    let given = answering so_far.r so_far.state in
    let event_log = waited event ∷ answer_log answer given.after.is_open in
    let doing : GoesOn now last event_log =
    goes_on_then now heard last (waited event ∷ []) (answer_log answer given.after.is_open) waits
    (subst (λ (b : Bool). GoesOn heard last (answer_log answer b)) (opens given.after given.state) puts) in
    record {
      event_log = so_far.event_log ++ event_log;
      done = goes_on_then past now last so_far.event_log event_log so_far.done doing;
      r = given.after;
      state = given.state;
      acknowledged_is_kept = λ before. is_still_kept now last event_log so_far.r given.after
          (option_to_list answer.message)
          doing (none_by_answer answer given.after.is_open ∙ ap option_to_list (sym none))
          (answer_grows event so_far.r answer given.after given.answer) (so_far.acknowledged_is_kept before);
      following = λ left rest text end all is. rw (append_assoc so_far.event_log event_log rest)
          (so_far.following (left + 1) (event_log ++ rest) text end (omega (arith, all))
          (goes_on left event answer given.after rest refl still given.answer none refl is));
    }

-- so many events were answered that no more are waited for
pub was_given_up : (first : ReceiverState) (past now : Option (List LogEvent)) (turn : ℕ) (kept_now : Kept)
    → IsSoFar first past now turn kept_now → turn ≡ most_events → WasReception first past now None kept_now
was_given_up first past now turn kept_now so_far all = record {
  event_log = so_far.event_log ++ [];
  done = goes_on_none past now so_far.event_log so_far.done;
  last = so_far.r;
  reception = so_far.following 0 [] None so_far.r (omega (arith, all)) (given_up refl refl refl refl);
  acknowledged_is_kept = so_far.acknowledged_is_kept;
  state = so_far.state;
}
