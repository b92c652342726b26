-- What is acknowledged stays what was kept: through a step of the receiver, and through logged events on the line.
use Rattle.std.proofs.Common.{◌≡◌, ℕ, Bool, ◌⊎◌, inl, inr, List, true, false, [], ◌∷◌, ◌++◌, Option, None, Some}
use Rattle.std.proofs.Common.{refl, sym, ap, ◌∙◌, append_assoc, append-nil}
use Rattle.std.proofs.lemmas.Bool.{false≢true}
use Rattle.std.specs.Option.{option_to_list}
use Rattle.lis_frame.specs.Frame.{FrameContent}
use Rattle.lis_frame.specs.Stream.{signal_after}
use Rattle.lis_frame.specs.declared.scanner.SignalOf.{SignalOf}
use Rattle.lis_frame.specs.declared.scanner.SignalOf.TheVariants as signals
use Rattle.lis_link.specs.declared.receiver.Note.{Note}
use Rattle.lis_link.specs.declared.receiver.Note.TheVariants as Notes
use Rattle.lis_text.specs.declared.readiness.Readiness.{Readiness}
use Rattle.lis_text.specs.declared.readiness.Readiness.TheVariants as readiness
use Rattle.lis_link.specs.declared.receiver.Step.{Step}
use Rattle.lis_link.specs.Joining.{completed, groups}
use Rattle.lis_link.specs.Receiver.{ReceiverState, answered_request, heard, heard_by, held_text, classified}
use Rattle.lis_link.specs.Receiver.{on_classified}
use Rattle.lis_link.specs.Receiver.{receiver_restarted, timer_by}
use Rattle.lis_link.proofs.JoiningLaws.{groups-append}
use Rattle.uses.specs.Computer.{AcknowledgedIsKept, IsAnswer, answer_log, made, refused, reply_log, step_at}
use Rattle.uses.specs.Computer.{timer_after}
use Rattle.uses.specs.Connection.{LogEvent, GoesOn, kept, kept_texts, not_kept, reconnected, sent, timed, waited}
use Rattle.uses.specs.declared.connection.Event.{Event}
use Rattle.uses.specs.declared.connection.Event.TheVariants.{Byte, Timer, Closed}

-- if the line is open after it, either its session began with it, or the acknowledged texts are those before and these
abbrev pub Grows : ReceiverState → ReceiverState → List (List ℕ) → Type 0
Grows r after texts =
    after.is_open ≡ true
    → (groups [] after.accepted ≡ [])
    ⊎ ((r.is_open ≡ true) × (groups [] after.accepted ≡ groups [] r.accepted ++ texts))

-- nothing was acknowledged, or the line isn't open
pub stays : (r after : ReceiverState) → after.is_open ≡ r.is_open → after.accepted ≡ r.accepted → Grows r after []
stays r after opens accepted = λ is. inr (
  sym opens ∙ is,
  ap (groups []) accepted ∙ sym (append-nil (groups [] r.accepted)),
)

is_shut : (r after : ReceiverState) (texts : List (List ℕ)) → after.is_open ≡ false → Grows r after texts
is_shut r after texts shut = λ is. absurd (false≢true (sym shut ∙ is))

-- one more frame
one_more : (r : ReceiverState) (frame : FrameContent)
    → groups [] (r.accepted ++ frame ∷ [])
    ≡ groups [] r.accepted ++ option_to_list (completed (held_text r) frame)
one_more r frame =
    groups-append [] r.accepted (frame ∷ [])
    ∙ ap (λ t. groups [] r.accepted ++ t) (append-nil (option_to_list (completed (held_text r) frame)))

-- a step of the receiver, by what was heard
request_grows : (ready : Readiness) (r : ReceiverState)
    → Grows r (answered_request ready r).after (option_to_list (answered_request ready r).message)
request_grows readiness.Ready r = λ is. inl refl
request_grows readiness.Busy r = is_shut r (answered_request readiness.Busy r).after [] refl
request_grows readiness.Contending r = is_shut r (answered_request readiness.Contending r).after [] refl

classified_grows : (r : ReceiverState) (frame : FrameContent) (note : Note)
    → Grows r (on_classified r frame note).after (option_to_list (on_classified r frame note).message)
classified_grows r frame (Notes.Accepted number) = λ is. inr (is, one_more r frame)
classified_grows r frame note = stays r r refl refl

signal_grows : (is_open : Bool) (signal : SignalOf 240) (r : ReceiverState) → r.is_open ≡ is_open
    → Grows r (heard_by is_open signal r).after (option_to_list (heard_by is_open signal r).message)
signal_grows true signals.Enq r opens = request_grows r.readiness r
signal_grows true signals.Eot r opens = is_shut r (record r { is_open = false }) [] refl
signal_grows true (signals.Good frame) r opens = classified_grows r frame (classified r frame)
signal_grows true (signals.Bad fault) r opens = stays r r refl refl
signal_grows false signals.Enq r opens = request_grows r.readiness r
signal_grows false signals.Eot r opens = stays r r refl refl
signal_grows false (signals.Good frame) r opens = stays r r refl refl
signal_grows false (signals.Bad fault) r opens = stays r r refl refl

heard_grows : (signal : Option (SignalOf 240)) (r : ReceiverState)
    → Grows r (heard signal r).after (option_to_list (heard signal r).message)
heard_grows None r = stays r r refl refl
heard_grows (Some signal) r = signal_grows r.is_open signal r refl

timer_grows : (is_open : Bool) (r : ReceiverState)
    → Grows r (timer_by is_open r).after (option_to_list (timer_by is_open r).message)
timer_grows true r = is_shut r (timer_by true r).after [] refl
timer_grows false r = stays r r refl refl

pub step_grows : (event : Event) (r : ReceiverState)
    → Grows r (step_at event r).after (option_to_list (step_at event r).message)
step_grows (Byte byte) r = heard_grows (signal_after 240 r.past byte) (record r { past = byte ∷ r.past })
step_grows Timer r = timer_grows r.is_open r
step_grows Closed r = stays r r refl refl

pub answer_grows : (event : Event) (r : ReceiverState) (answer : Step) (after : ReceiverState)
    → IsAnswer event r answer after → Grows r after (option_to_list answer.message)
answer_grows event r answer after (made is after_is) = rw (after_is, is.message_is) (step_grows event r)
answer_grows event r answer after (refused byte frame event_is taken after_is is) =
    rw is.message_is (stays r after (ap (λ (s : ReceiverState). s.is_open) after_is)
    (ap (λ (s : ReceiverState). s.accepted) after_is))

pub restart_grows : (r after : ReceiverState) (texts : List (List ℕ)) → Grows r (receiver_restarted after) texts
restart_grows r after texts = is_shut r (receiver_restarted after) texts refl

-- the texts that were kept by logged events after logged events, and by an answer
kept_texts-append : (event_log more : List LogEvent) → kept_texts (event_log ++ more) ≡ kept_texts event_log ++
    kept_texts more
kept_texts-append [] more = refl
kept_texts-append (kept text ∷ event_log) more = ap (λ t. text ∷ t) (kept_texts-append event_log more)
kept_texts-append (not_kept text ∷ event_log) more = kept_texts-append event_log more
kept_texts-append (waited event ∷ event_log) more = kept_texts-append event_log more
kept_texts-append (sent bytes ∷ event_log) more = kept_texts-append event_log more
kept_texts-append (timed seconds ∷ event_log) more = kept_texts-append event_log more
kept_texts-append (reconnected ∷ event_log) more = kept_texts-append event_log more

none_by_timer : (note : Note) (is_open : Bool) → kept_texts (timer_after note is_open) ≡ []
none_by_timer note false = refl
none_by_timer Notes.Quiet true = refl
none_by_timer note true = refl

pub none_by_reply : (reply : Option ℕ) (more : List LogEvent) → kept_texts (reply_log reply ++ more) ≡ kept_texts more
none_by_reply None more = refl
none_by_reply (Some byte) more = refl

pub none_by_answer : (answer : Step) (is_open : Bool) → kept_texts (answer_log answer is_open) ≡ []
none_by_answer answer is_open =
    none_by_reply answer.reply (timer_after answer.note is_open) ∙ none_by_timer answer.note is_open

-- what is acknowledged is still kept after logged events that keep the texts by which it grows
still_kept : (log event_log all : List LogEvent) (r after : ReceiverState) (texts : List (List ℕ))
    → all ≡ log ++ event_log → kept_texts event_log ≡ texts → Grows r after texts
    → AcknowledgedIsKept (Some log) r → AcknowledgedIsKept (Some all) after
still_kept log event_log all r after texts all_is texts_is grows is_kept = λ is.
    let whole : kept_texts all ≡ kept_texts log ++ texts =
    ap kept_texts all_is ∙ kept_texts-append log event_log ∙ ap (λ t. kept_texts log ++ t) texts_is in
    elim (grows is) [
      | inl begun ↦ (kept_texts all, sym (append-nil (kept_texts all)) ∙ ap (λ t. kept_texts all ++ t) (sym begun))
      | inr went_on ↦
          let before = is_kept went_on.0 in (
            before.0,
            whole ∙ ap (λ t. t ++ texts) before.1 ∙ append_assoc before.0 (groups [] r.accepted) texts
                ∙ ap (λ t. before.0 ++ t) (sym went_on.1),
          )
    ]

pub is_still_kept : (past now : Option (List LogEvent)) (event_log : List LogEvent) (r after : ReceiverState)
    (texts : List (List ℕ))
    → GoesOn past now event_log → kept_texts event_log ≡ texts → Grows r after texts
    → AcknowledgedIsKept past r → AcknowledgedIsKept now after
is_still_kept past None event_log r after texts done texts_is grows is_kept = record {}
is_still_kept None (Some all) event_log r after texts done texts_is grows is_kept = elim done [ ]
is_still_kept (Some log) (Some all) event_log r after texts done texts_is grows is_kept =
    still_kept log event_log all r after texts done texts_is grows is_kept
