-- A station's loop: each event is answered, and what is acknowledged stays what was kept.
use Rattle.std.proofs.Common.{◌≡◌, ◌≢◌, ℕ, ◌+◌, ◌-◌, ◌<◌, Bool, true, false, ◌⊎◌, inl, inr, List, [], ◌∷◌, ◌++◌}
use Rattle.std.proofs.Common.{Option, None, Some, refl, sym, ap, ◌∙◌, subst, arith, append_assoc}
use Rattle.std.specs.Option.{option_to_list}
use Rattle.lis_link.specs.declared.receiver.Note.{Note}
use Rattle.lis_link.specs.declared.receiver.Note.TheVariants as Notes
use Rattle.lis_link.specs.declared.receiver.Step.{Step}
use Rattle.lis_link.specs.declared.sender.EmitOf.{EmitOf}
use Rattle.lis_link.specs.Duties.{emitted_bytes}
use Rattle.lis_link.specs.Representation.{IsIn}
use Rattle.lis_link.specs.Receiver.{ReceiverState, on_byte}
use Rattle.lis_station.specs.declared.station.AnswerOf.{AnswerOf}
use Rattle.lis_station.specs.declared.station.AnswerOf.TheVariants.{Emits, Hears}
use Rattle.lis_station.specs.Station.{StationState, awaits_reply, routed, timed_by, on_station_byte, on_station_timer}
use Rattle.lis_station.specs.Station.{station_seconds, line_closed}
use Rattle.lis_station.specs.Representation.{KeptStation, station_at, IsStation, IsAnswer, IsRefused, IsOutOfMemory}
use Rattle.uses.specs.declared.connection.Event.{Event}
use Rattle.uses.specs.declared.connection.Event.TheVariants.{Byte, Timer, Closed}
use Rattle.uses.specs.declared.station.Ran.{Ran}
use Rattle.uses.specs.declared.station.Ran.TheVariants as Rans
use Rattle.uses.specs.Analyzer.{put_out, sent_if_any}
use Rattle.uses.specs.Computer.{AcknowledgedIsKept, reply_log}
use Rattle.uses.specs.Connection.{LogEvent, GoesOn, kept, kept_texts, most_events, not_kept, waited}
use Rattle.uses.specs.Station.{IsOfEnd, IsStationAnswer, made, refused, station_step_at, timer_log, timer_unless_quiet}
use Rattle.uses.specs.Station.{step_log, IsHeard, no_text, is_kept, is_not_kept, over_by, IsTurn, is_closed, is_sent}
use Rattle.uses.specs.Station.{is_heard, IsRun, ends, goes_on, given_up, WasRun}
use Rattle.uses.specs.inside.Station.{AnswersStation, WasTurn, WasHeard}
use Rattle.uses.proofs.KeepingLaws.{Grows, step_grows, stays, restart_grows, is_still_kept, none_by_reply}
use Rattle.uses.proofs.LoopLaws.{goes_on_none, goes_on_then, none_yet}

-- ---- an answer

memory_is : (note : Note) → (note ≡ Notes.OutOfMemory) ⊎ (note ≢ Notes.OutOfMemory)
memory_is Notes.OutOfMemory = inl refl
memory_is note = inr (λ e. cc)

is_out : (answer : AnswerOf 240) → IsOutOfMemory answer ⊎ (IsOutOfMemory answer → ⊥)
is_out (Emits emit) = inr (λ e. e)
is_out (Hears step) = memory_is step.note

-- the station's step is that of an end, and this is the station after it
abbrev IsMade : StationState → KeptStation → AnswerOf 240 → Event → Type 0
IsMade s new answer event =
    IsOfEnd (station_step_at event s).answer answer × IsStation 240 new (station_step_at event s).after

byte_made :
    (awaits : Bool) (byte : ℕ) (s : StationState) (old new : KeptStation) (answer : AnswerOf 240)
    → IsIn 240 old.receiver s.receiver
    → IsAnswer 240 old (routed 240 awaits byte s) answer new
    → IsOfEnd (routed 240 awaits byte s).answer answer × IsStation 240 new (routed 240 awaits byte s).after
byte_made true byte s old new (Emits emit) near is = (
  is.answers.0,
  record { receiver_is = subst (λ k. IsIn 240 k s.receiver) (sym is.answers.1) near; station_is = is.station_is },
)
byte_made true byte s old new (Hears step) near is = absurd is.answers
byte_made false byte s old new (Emits emit) near is = absurd is.answers
byte_made false byte s old new (Hears step) near is =
    (is.answers.answer, record { receiver_is = is.answers.state; station_is = is.station_is })

timer_made :
    (is_open : Bool) (s : StationState) (old new : KeptStation) (answer : AnswerOf 240)
    → IsIn 240 old.receiver s.receiver
    → IsAnswer 240 old (timed_by {limit = 240} is_open s) answer new
    → IsOfEnd (timed_by {limit = 240} is_open s).answer answer
    × IsStation 240 new (timed_by {limit = 240} is_open s).after
timer_made false s old new (Emits emit) near is = (
  is.answers.0,
  record { receiver_is = subst (λ k. IsIn 240 k s.receiver) (sym is.answers.1) near; station_is = is.station_is },
)
timer_made false s old new (Hears step) near is = absurd is.answers
timer_made true s old new (Emits emit) near is = absurd is.answers
timer_made true s old new (Hears step) near is =
    (is.answers.answer, record { receiver_is = is.answers.state; station_is = is.station_is })

-- memory ran out for a frame
byte_refused :
    (byte : ℕ) (s : StationState) (old new : KeptStation) (answer : AnswerOf 240)
    → IsStation 240 old s
    → IsOutOfMemory answer
    → awaits_reply old.sender.phase ≡ false
    → IsRefused 240 old (on_byte 240 byte s.receiver) (record s.receiver { past = byte ∷ s.receiver.past }) answer new
    → AnswersStation (Byte byte) s answer new
byte_refused byte s old new (Emits emit) is out hears was = absurd out
byte_refused byte s old new (Hears step) is out hears was =
    let r : ReceiverState = record s.receiver { past = byte ∷ s.receiver.past } in
    let same_sender : old.sender ≡ s.sender = ap (λ (t : StationState). t.sender) is.station_is in
    record {
      after = record s { receiver = r };
      answer_is = refused byte was.0.frame step refl
          (ap (λ (t : StationState). awaits_reply t.sender.phase) (sym is.station_is) ∙ hears)
          was.0.would_accept refl refl
          (record { reply_is = was.0.reply_is; message_is = was.0.message_is; note_is = out });
      state = record {
        receiver_is = was.0.state;
        station_is =
            ap (λ (k : KeptStation). station_at k r) was.1
            ∙ ap (λ (t : StationState). record t { receiver = r }) is.station_is;
      };
    }

pub answers_byte :
    (byte : ℕ) (s : StationState) (old new : KeptStation) (answer : AnswerOf 240)
    → ((r : ReceiverState) → IsIn 240 old.receiver r → (IsOutOfMemory answer → ⊥)
    → IsAnswer 240 old (on_station_byte 240 byte (station_at old r)) answer new)
    → ((r : ReceiverState) → IsIn 240 old.receiver r → IsOutOfMemory answer
    → IsRefused 240 old (on_byte 240 byte r) (record r { past = byte ∷ r.past }) answer new)
    → (IsOutOfMemory answer → awaits_reply old.sender.phase ≡ false)
    → IsStation 240 old s
    → AnswersStation (Byte byte) s answer new
answers_byte byte s old new answer makes refuses hears is = elim (is_out answer) [
  | inl out ↦ byte_refused byte s old new answer is out (hears out) (refuses s.receiver is.receiver_is out)
  | inr fine ↦
      let step : IsAnswer 240 old (on_station_byte 240 byte s) answer new =
      subst (λ (t : StationState). IsAnswer 240 old (on_station_byte 240 byte t) answer new) is.station_is
      (makes s.receiver is.receiver_is fine) in
      let was = byte_made (awaits_reply s.sender.phase) byte s old new answer is.receiver_is step in
      record { after = (on_station_byte 240 byte s).after; answer_is = made was.0 refl; state = was.1 }
]

pub answers_timer :
    (s : StationState) (old new : KeptStation) (answer : AnswerOf 240)
    → ((r : ReceiverState) → IsIn 240 old.receiver r
    → IsAnswer 240 old (on_station_timer {limit = 240} (station_at old r)) answer new)
    → IsStation 240 old s
    → AnswersStation Timer s answer new
answers_timer s old new answer makes is =
    let step : IsAnswer 240 old (on_station_timer {limit = 240} s) answer new =
    subst (λ (t : StationState). IsAnswer 240 old (on_station_timer {limit = 240} t) answer new) is.station_is
    (makes s.receiver is.receiver_is) in
    let was = timer_made s.receiver.is_open s old new answer is.receiver_is step in
    record { after = (on_station_timer {limit = 240} s).after; answer_is = made was.0 refl; state = was.1 }

-- ---- a step of the receiver

-- the seconds of the timer that runs
seconds_of :
    (s : StationState) (old : KeptStation) (seconds : Option ℕ)
    → ((r : ReceiverState) → IsIn 240 old.receiver r → seconds ≡ station_seconds (station_at old r))
    → IsStation 240 old s
    → seconds ≡ station_seconds s
seconds_of s old seconds is_it is = is_it s.receiver is.receiver_is ∙ ap station_seconds is.station_is

pub was_no_text :
    (s : StationState) (step : Step) (past now : Option (List LogEvent)) (old : KeptStation) (seconds : Option ℕ)
    → step.message ≡ None
    → ((r : ReceiverState) → IsIn 240 old.receiver r → seconds ≡ station_seconds (station_at old r))
    → GoesOn past now (reply_log step.reply ++ timer_unless_quiet step.note seconds)
    → IsStation 240 old s
    → WasHeard s step past now None old
was_no_text s step past now old seconds none runs puts is = record {
  event_log = step_log step s;
  done = subst (λ n. GoesOn past now (reply_log step.reply ++ timer_unless_quiet step.note n))
      (seconds_of s old seconds runs is) puts;
  last = s;
  heard_is = no_text none refl refl refl;
  state = is;
}

pub was_kept :
    (s : StationState) (step : Step) (past kept_it now : Option (List LogEvent)) (old : KeptStation)
    (seconds : Option ℕ) (whole : List ℕ)
    → step.message ≡ Some whole
    → ((r : ReceiverState) → IsIn 240 old.receiver r → seconds ≡ station_seconds (station_at old r))
    → GoesOn past kept_it (kept whole ∷ [])
    → GoesOn kept_it now (reply_log step.reply ++ timer_unless_quiet step.note seconds)
    → IsStation 240 old s
    → WasHeard s step past now (Some (Rans.Text whole)) old
was_kept s step past kept_it now old seconds whole is_whole runs keeps puts is =
    let puts_it : GoesOn kept_it now (step_log step s) =
    subst (λ n. GoesOn kept_it now (reply_log step.reply ++ timer_unless_quiet step.note n))
    (seconds_of s old seconds runs is) puts in
    record {
      event_log = kept whole ∷ step_log step s;
      done = goes_on_then past kept_it now (kept whole ∷ []) (step_log step s) keeps puts_it;
      last = s;
      heard_is = is_kept whole is_whole refl refl refl;
      state = is;
    }

pub was_not_kept :
    (s : StationState) (step : Step) (past kept_it now : Option (List LogEvent)) (old shut : KeptStation)
    (seconds : Option ℕ) (whole : List ℕ)
    → step.message ≡ Some whole
    → ((r : ReceiverState) → IsIn 240 old.receiver r → IsStation 240 shut (line_closed (station_at old r)))
    → ((r : ReceiverState) → IsIn 240 shut.receiver r → seconds ≡ station_seconds (station_at shut r))
    → GoesOn past kept_it (not_kept whole ∷ [])
    → GoesOn kept_it now (timer_log seconds)
    → IsStation 240 old s
    → WasHeard s step past now None shut
was_not_kept s step past kept_it now old shut seconds whole is_whole closes runs keeps times is =
    let shut_is : IsStation 240 shut (line_closed s) =
    subst (λ (t : StationState). IsStation 240 shut (line_closed t)) is.station_is (closes s.receiver is.receiver_is) in
    let timer : List LogEvent = timer_log (station_seconds (line_closed s)) in
    let times_it : GoesOn kept_it now timer =
    subst (λ n. GoesOn kept_it now (timer_log n)) (seconds_of (line_closed s) shut seconds runs shut_is) times in
    record {
      event_log = not_kept whole ∷ timer;
      done = goes_on_then past kept_it now (not_kept whole ∷ []) timer keeps times_it;
      last = line_closed s;
      heard_is = is_not_kept whole is_whole refl refl refl;
      state = shut_is;
    }

-- ---- one event

pub was_closed_turn :
    (event : Event) (s : StationState) (past : Option (List LogEvent)) (old new : KeptStation)
    → event ≡ Closed → new ≡ old → IsStation 240 old s
    → WasTurn event s past past (Some Rans.Closed) new
was_closed_turn event s past old new closed same is = record {
  event_log = [];
  done = none_yet past;
  last = s;
  turn = is_closed closed refl refl refl;
  state = subst (λ k. IsStation 240 k s) (sym same) is;
}

pub was_heard_turn :
    (event : Event) (s : StationState) (past now : Option (List LogEvent)) (old heard_it new : KeptStation)
    (step : Step) (ran : Option Ran)
    → event ≢ Closed
    → ((t : StationState) → IsStation 240 old t → AnswersStation event t (Hears step) heard_it)
    → ((t : StationState) → IsStation 240 heard_it t → WasHeard t step past now ran new)
    → IsStation 240 old s
    → WasTurn event s past now ran new
was_heard_turn event s past now old heard_it new step ran still answering takes is =
    let given = answering s is in
    let was = takes given.after given.state in
    record {
      event_log = was.event_log;
      done = was.done;
      last = was.last;
      turn = is_heard step given.after still given.answer_is was.heard_is;
      state = was.state;
    }

pub was_sent_turn :
    (event : Event) (s : StationState) (past put_it now : Option (List LogEvent)) (old new : KeptStation)
    (emit : EmitOf 240) (seconds : Option ℕ) (ran : Option Ran)
    → event ≢ Closed
    → ((t : StationState) → IsStation 240 old t → AnswersStation event t (Emits emit) new)
    → ((r : ReceiverState) → IsIn 240 new.receiver r → seconds ≡ station_seconds (station_at new r))
    → GoesOn past put_it (put_out emit)
    → GoesOn put_it now (timer_log seconds)
    → ran ≡ over_by old.sender.phase new.sender.phase new.sender.outcome
    → IsStation 240 old s
    → WasTurn event s past now ran new
was_sent_turn event s past put_it now old new emit seconds ran still answering runs puts times ran_is is =
    let given = answering s is in
    let timer : List LogEvent = timer_log (station_seconds given.after) in
    let times_it : GoesOn put_it now timer =
    subst (λ n. GoesOn put_it now (timer_log n)) (seconds_of given.after new seconds runs given.state) times in
    let before_is = ap (λ (t : StationState). t.sender.phase) is.station_is in
    let after_is = given.state.station_is in
    record {
      event_log = put_out emit ++ timer;
      done = goes_on_then past put_it now (put_out emit) timer puts times_it;
      last = given.after;
      turn = is_sent emit still given.answer_is refl
          (ran_is
          ∙ ap (λ p. over_by p new.sender.phase new.sender.outcome) before_is
          ∙ ap (λ (t : StationState). over_by s.sender.phase t.sender.phase t.sender.outcome) after_is);
      state = given.state;
    }

-- ---- what is acknowledged is kept

none_by_seconds : (seconds : Option ℕ) → kept_texts (timer_log seconds) ≡ []
none_by_seconds None = refl
none_by_seconds (Some n) = refl

none_unless_quiet : (note : Note) (seconds : Option ℕ) → kept_texts (timer_unless_quiet note seconds) ≡ []
none_unless_quiet Notes.Quiet seconds = refl
none_unless_quiet note seconds = none_by_seconds seconds

none_by_step : (step : Step) (s : StationState) → kept_texts (step_log step s) ≡ []
none_by_step step s =
    none_by_reply step.reply (timer_unless_quiet step.note (station_seconds s))
    ∙ none_unless_quiet step.note (station_seconds s)

none_by_bytes : (bytes : List ℕ) (seconds : Option ℕ) → kept_texts (sent_if_any bytes ++ timer_log seconds) ≡ []
none_by_bytes [] seconds = none_by_seconds seconds
none_by_bytes (b ∷ bytes) seconds = none_by_seconds seconds

-- the receiver, after an answer of either end
byte_sent_keeps :
    (awaits : Bool) (byte : ℕ) (s after : StationState) (emit : EmitOf 240)
    → IsOfEnd (routed 240 awaits byte s).answer (Emits emit) → after ≡ (routed 240 awaits byte s).after
    → Grows s.receiver after.receiver []
byte_sent_keeps true byte s after emit of_end is =
    stays s.receiver after.receiver (ap (λ (t : StationState). t.receiver.is_open) is)
    (ap (λ (t : StationState). t.receiver.accepted) is)
byte_sent_keeps false byte s after emit of_end is = absurd of_end

timer_sent_keeps :
    (is_open : Bool) (s after : StationState) (emit : EmitOf 240)
    → IsOfEnd (timed_by {limit = 240} is_open s).answer (Emits emit) → after ≡ (timed_by {limit = 240} is_open s).after
    → Grows s.receiver after.receiver []
timer_sent_keeps false s after emit of_end is =
    stays s.receiver after.receiver (ap (λ (t : StationState). t.receiver.is_open) is)
    (ap (λ (t : StationState). t.receiver.accepted) is)
timer_sent_keeps true s after emit of_end is = absurd of_end

sent_keeps :
    (event : Event) (s after : StationState) (emit : EmitOf 240) → event ≢ Closed
    → IsStationAnswer event s (Emits emit) after
    → Grows s.receiver after.receiver []
sent_keeps (Byte byte) s after emit still (made of_end is) =
    byte_sent_keeps (awaits_reply s.sender.phase) byte s after emit of_end is
sent_keeps Timer s after emit still (made of_end is) = timer_sent_keeps s.receiver.is_open s after emit of_end is
sent_keeps Closed s after emit still (made of_end is) = absurd (still refl)
sent_keeps event s after emit still (refused byte frame result e hears taken answer_is after_is is) = absurd cc

byte_heard_keeps :
    (awaits : Bool) (byte : ℕ) (s after : StationState) (step : Step)
    → IsOfEnd (routed 240 awaits byte s).answer (Hears step) → after ≡ (routed 240 awaits byte s).after
    → Grows s.receiver after.receiver (option_to_list step.message)
byte_heard_keeps true byte s after step of_end is = absurd of_end
byte_heard_keeps false byte s after step of_end is =
    rw (ap (λ (t : StationState). t.receiver) is, of_end.message_is) (step_grows (Byte byte) s.receiver)

timer_heard_keeps :
    (is_open : Bool) (s after : StationState) (step : Step) → s.receiver.is_open ≡ is_open
    → IsOfEnd (timed_by {limit = 240} is_open s).answer (Hears step) → after ≡ (timed_by {limit = 240} is_open s).after
    → Grows s.receiver after.receiver (option_to_list step.message)
timer_heard_keeps false s after step opens of_end is = absurd of_end
timer_heard_keeps true s after step opens of_end is =
    rw (ap (λ (t : StationState). t.receiver) is, of_end.message_is) (step_grows Timer s.receiver)

message_in : AnswerOf 240 → Option (List ℕ)
message_in (Emits emit) = None
message_in (Hears step) = step.message

heard_keeps :
    (event : Event) (s after : StationState) (step : Step) → event ≢ Closed
    → IsStationAnswer event s (Hears step) after
    → Grows s.receiver after.receiver (option_to_list step.message)
unfolding message_in
heard_keeps (Byte byte) s after step still (made of_end is) =
    byte_heard_keeps (awaits_reply s.sender.phase) byte s after step of_end is
heard_keeps Timer s after step still (made of_end is) =
    timer_heard_keeps s.receiver.is_open s after step refl of_end is
heard_keeps Closed s after step still (made of_end is) = absurd (still refl)
heard_keeps event s after step still (refused byte frame result e hears taken answer_is after_is is) =
    let none : step.message ≡ None = ap message_in answer_is ∙ is.message_is in
    rw none (stays s.receiver after.receiver (ap (λ (t : StationState). t.receiver.is_open) after_is)
    (ap (λ (t : StationState). t.receiver.accepted) after_is))

-- what one event keeps is what the acknowledged texts grow by
record TurnKeeps (s last : StationState) (event_log : List LogEvent) : Type 0 where
  texts : List (List ℕ)
  texts_are : kept_texts event_log ≡ texts
  grows : Grows s.receiver last.receiver texts

step_keeps :
    (s after last : StationState) (step : Step) (event_log : List LogEvent) (ran : Option Ran)
    → Grows s.receiver after.receiver (option_to_list step.message)
    → IsHeard after step event_log ran last
    → TurnKeeps s last event_log
step_keeps s after last step event_log ran grows (no_text none log_is ran_is last_is) =
    record {
      texts = [];
      texts_are = ap kept_texts log_is ∙ none_by_step step after;
      grows = rw last_is (subst (λ m. Grows s.receiver after.receiver (option_to_list m)) none grows);
    }
step_keeps s after last step event_log ran grows (is_kept whole is_whole log_is ran_is last_is) =
    record {
      texts = whole ∷ [];
      texts_are = ap kept_texts log_is ∙ ap (λ rest. whole ∷ rest) (none_by_step step after);
      grows = rw last_is (subst (λ m. Grows s.receiver after.receiver (option_to_list m)) is_whole grows);
    }
step_keeps s after last step event_log ran grows (is_not_kept whole is_whole log_is ran_is last_is) =
    record {
      texts = [];
      texts_are = ap kept_texts log_is ∙ none_by_seconds (station_seconds (line_closed after));
      grows = rw last_is (restart_grows s.receiver after.receiver []);
    }

turn_keeps :
    (event : Event) (s last : StationState) (event_log : List LogEvent) (ran : Option Ran)
    → IsTurn event s event_log ran last
    → TurnKeeps s last event_log
turn_keeps event s last event_log ran (is_closed closed log_is ran_is last_is) = record {
  texts = [];
  texts_are = ap kept_texts log_is;
  grows = rw last_is (stays s.receiver s.receiver refl refl);
}
turn_keeps event s last event_log ran (is_sent emit still answer log_is ran_is) = record {
  texts = [];
  texts_are = ap kept_texts log_is ∙ none_by_bytes (emitted_bytes emit) (station_seconds last);
  grows = sent_keeps event s last emit still answer;
}
turn_keeps event s last event_log ran (is_heard step after still answer heard_is) =
    step_keeps s after last step event_log ran (heard_keeps event s after step still answer) heard_is

-- ---- the loop

-- so many events were answered; what follows for the station that is kept is the rest
pub record IsRunSoFar (first : StationState) (past now : Option (List LogEvent)) (turn : ℕ) (kept_now : KeptStation) :
    Type 0 where
  pub event_log : List LogEvent
  pub done : GoesOn past now event_log
  pub s : StationState
  pub state : IsStation 240 kept_now s
  pub acknowledged_is_kept : AcknowledgedIsKept past first.receiver → AcknowledgedIsKept now s.receiver
  pub following : (left : ℕ) (rest : List LogEvent) (ran : Ran) (last : StationState) → turn + left ≡ most_events
      → IsRun left s rest ran last → IsRun most_events first (event_log ++ rest) ran last

pub run_begun : (first : StationState) (past : Option (List LogEvent)) (kept_now : KeptStation)
    → IsStation 240 kept_now first
    → IsRunSoFar first past past 0 kept_now
run_begun first past kept_now state = record {
  event_log = [];
  done = none_yet past;
  s = first;
  state = state;
  acknowledged_is_kept = λ is. is;
  following = λ left rest ran last all is. subst (λ (n : ℕ). IsRun n first rest ran last) (omega (arith, all)) is;
}

-- what is acknowledged is still kept after an event
kept_on :
    (event : Event) (s last : StationState) (now waited_it later : Option (List LogEvent)) (event_log : List LogEvent)
    (ran : Option Ran)
    → GoesOn now later (waited event ∷ event_log) → IsTurn event s event_log ran last
    → AcknowledgedIsKept now s.receiver → AcknowledgedIsKept later last.receiver
kept_on event s last now waited_it later event_log ran done turn =
    let keeps = turn_keeps event s last event_log ran turn in
    is_still_kept now later (waited event ∷ event_log) s.receiver last.receiver keeps.texts done keeps.texts_are
    keeps.grows

pub run_ended :
    (first : StationState) (past now waited_it later : Option (List LogEvent)) (turn : ℕ) (kept_now new : KeptStation)
    (event : Event) (ran : Ran)
    → IsRunSoFar first past now turn kept_now → turn < most_events
    → GoesOn now waited_it (waited event ∷ [])
    → ((t : StationState) → IsStation 240 kept_now t → WasTurn event t waited_it later (Some ran) new)
    → WasRun first past later ran new
run_ended first past now waited_it later turn kept_now new event ran so_far more waits takes =
    let was = takes so_far.s so_far.state in
    let log : List LogEvent = waited event ∷ was.event_log in
    let doing : GoesOn now later log =
    goes_on_then now waited_it later (waited event ∷ []) was.event_log waits was.done in
    record {
      event_log = so_far.event_log ++ log;
      done = goes_on_then past now later so_far.event_log log so_far.done doing;
      last = was.last;
      run = so_far.following (most_events - turn) log ran was.last (omega (arith, more))
          (ends (most_events - turn - 1) event was.event_log (omega (arith, more)) was.turn refl);
      acknowledged_is_kept = λ before. kept_on event so_far.s was.last now waited_it later was.event_log (Some ran)
          doing was.turn (so_far.acknowledged_is_kept before);
      state = was.state;
    }

pub run_goes_on :
    (first : StationState) (past now waited_it later : Option (List LogEvent)) (turn : ℕ) (kept_now new : KeptStation)
    (event : Event)
    → IsRunSoFar first past now turn kept_now
    → GoesOn now waited_it (waited event ∷ [])
    → ((t : StationState) → IsStation 240 kept_now t → WasTurn event t waited_it later None new)
    → IsRunSoFar first past later (turn + 1) new
run_goes_on first past now waited_it later turn kept_now new event so_far waits takes =
    let was = takes so_far.s so_far.state in
    let log : List LogEvent = waited event ∷ was.event_log in
    let doing : GoesOn now later log =
    goes_on_then now waited_it later (waited event ∷ []) was.event_log waits was.done in
    record {
      event_log = so_far.event_log ++ log;
      done = goes_on_then past now later so_far.event_log log so_far.done doing;
      s = was.last;
      state = was.state;
      acknowledged_is_kept = λ before. kept_on event so_far.s was.last now waited_it later was.event_log None
          doing was.turn (so_far.acknowledged_is_kept before);
      following = λ left rest ran last all is. rw (append_assoc so_far.event_log log rest)
          (so_far.following (left + 1) (log ++ rest) ran last (omega (arith, all))
          (goes_on left event was.event_log was.last rest refl was.turn refl is));
    }

pub run_given_up :
    (first : StationState) (past now : Option (List LogEvent)) (turn : ℕ) (kept_now : KeptStation)
    → IsRunSoFar first past now turn kept_now → turn ≡ most_events
    → WasRun first past now Rans.Closed kept_now
run_given_up first past now turn kept_now so_far all = record {
  event_log = so_far.event_log ++ [];
  done = goes_on_none past now so_far.event_log so_far.done;
  last = so_far.s;
  run = so_far.following 0 [] Rans.Closed so_far.s (omega (arith, all)) (given_up refl refl refl refl);
  acknowledged_is_kept = so_far.acknowledged_is_kept;
  state = so_far.state;
}
