-- What follows one damaged byte of a frame.
use Rattle.std.proofs.Common.{◌≡◌, ◌≢◌, ℕ, ◌⊎◌, inl, inr, Bool, true, false, List, [], ◌∷◌, ◌++◌, Option, None, Some}
use Rattle.std.proofs.Common.{refl, ap, sym, ◌∙◌, subst, append_assoc, map}
use Rattle.std.specs.Option.{option_map}
use Rattle.lis_text.specs.Control.{STX, LF, ACK}
use Rattle.lis_frame.specs.declared.frame.FrameFault.{FrameFault}
use Rattle.lis_frame.specs.declared.scanner.SignalOf.{SignalOf}
use Rattle.lis_frame.specs.declared.scanner.SignalOf.TheVariants.{Good, Bad}
use Rattle.lis_frame.specs.Frame.{FrameContent, IsFrame}
use Rattle.lis_frame.specs.Stream.{open_body, signal_after, signals_after}
use Rattle.lis_frame.proofs.StreamLaws.{heard_frame}
use Rattle.lis_link.specs.declared.receiver.Note.TheVariants.{Quiet, Accepted}
use Rattle.lis_link.specs.declared.sender.Phase.{Phase}
use Rattle.lis_link.specs.Receiver.{ReceiverState, ReceiverStep, answers, classified, heard, heard_by, on_byte}
use Rattle.lis_link.specs.Receiver.{on_classified, with_heard}
use Rattle.lis_link.specs.Sender.{timer_in}
use Rattle.lis_careful.specs.Careful.{careful_by, ends_session, heard_as, on_byte_carefully, session_ended}
use Rattle.lis_careful.specs.World.{CarefulSignal, ends, gives, careful_signal_by, careful_signals, with_heard_first}
use Rattle.lis_careful.specs.OneByte.{IsHeardAs, nothing, session_end, bad_frame, itself, replies_of, taken_of}
use Rattle.lis_careful.specs.OneByte.{with_first}
use Rattle.lis_careful.specs.Follows.{after_bytes, AreAnswered, Follows, is_taken, is_sent_again, is_silent}
use Rattle.lis_careful.specs.Follows.{FollowsOneByte}
use Rattle.lis_careful.proofs.Receiving.{not_ended, none_ends, on_byte-past}
use Rattle.lis_careful.proofs.Frames.{inner_of, encoding_of, signals-unspecial, unspecial_after_start}
use Rattle.lis_careful.proofs.OneByte.{cancel_last, ends_with, start_outside, last_place, one_byte_is_noticed}

-- ---- bytes that give nothing, or one thing

-- what is heard, as a step
abbrev step_on : {limit : ℕ} → CarefulSignal limit → ReceiverState → ReceiverStep
step_on ends r = session_ended r
step_on (gives signal) r = heard_by r.is_open signal r

abbrev at_past : List ℕ → ReceiverState → ReceiverState
at_past past r = record r { past = past }

data First (limit b : ℕ) (bytes : List ℕ) (r : ReceiverState) : Type 0 where
  quiet : (past : List ℕ) → on_byte_carefully limit b r ≡ answers None Quiet (at_past past r)
      → careful_signals limit (b ∷ bytes) r ≡ careful_signals limit bytes (at_past past r) → First limit b bytes r
  sounds : (signal : CarefulSignal limit) → (past : List ℕ)
      → on_byte_carefully limit b r ≡ step_on signal (at_past past r)
      → careful_signals limit (b ∷ bytes) r
      ≡ signal ∷ careful_signals limit bytes (step_on signal (at_past past r)).after
      → First limit b bytes r

first_of : (limit b : ℕ) (bytes : List ℕ) (r : ReceiverState) → First limit b bytes r
first_of limit b bytes r = by (ends_session r b) refl
  where
    heard_byte : ℕ
    heard_byte = heard_as (open_body r.past) b

    signals_if : Bool → List (CarefulSignal limit)
    signals_if test = with_heard_first (careful_signal_by test (signal_after limit r.past heard_byte))
        (careful_signals limit bytes (careful_by test limit b r).after)

    signals_with : Option (SignalOf limit) → List (CarefulSignal limit)
    signals_with signal = with_heard_first (option_map gives signal)
        (careful_signals limit bytes (heard signal (with_heard (heard_byte ∷ []) r)).after)

    by_signal : (signal : Option (SignalOf limit)) → signal_after limit r.past heard_byte ≡ signal
        → ends_session r b ≡ false → First limit b bytes r
    by_signal None e goes =
        quiet (heard_byte ∷ r.past)
        (sym (not_ended limit b r goes)
        ∙ ap (λ (signal : Option (SignalOf limit)). heard signal (with_heard (heard_byte ∷ []) r)) e)
        (ap signals_if goes ∙ ap signals_with e)
    by_signal (Some signal) e goes =
        sounds (gives signal) (heard_byte ∷ r.past)
        (sym (not_ended limit b r goes)
        ∙ ap (λ (signal : Option (SignalOf limit)). heard signal (with_heard (heard_byte ∷ []) r)) e)
        (ap signals_if goes ∙ ap signals_with e)

    by : (test : Bool) → ends_session r b ≡ test → First limit b bytes r
    by true is = sounds ends r.past (ap (λ t. careful_by t limit b r) is) (ap signals_if is)
    by false is = by_signal (signal_after limit r.past heard_byte) refl is

first_is : {A : Type 0} (x y : A) (xs : List A) → x ∷ xs ≡ y ∷ [] → x ≡ y
first_is x y xs e = cc

rest_is : {A : Type 0} (x y : A) (xs : List A) → x ∷ xs ≡ y ∷ [] → xs ≡ []
rest_is x y xs e = cc

record HeardNone (limit : ℕ) (bytes : List ℕ) (r : ReceiverState) : Type 0 where
  answered : AreAnswered limit bytes [] [] r
  past : List ℕ
  after_is : after_bytes limit bytes r ≡ at_past past r

heard_none : (limit : ℕ) (bytes : List ℕ) (r : ReceiverState) → careful_signals limit bytes r ≡ []
    → HeardNone limit bytes r
heard_none limit [] r e =
    record { answered = record { replies_are = refl; frames_are = refl }; past = r.past; after_is = refl }
heard_none limit (b ∷ bytes) r e = by (first_of limit b bytes r) (λ next none. heard_none limit bytes next none)
  where
    by : First limit b bytes r
        → ((next : ReceiverState) → careful_signals limit bytes next ≡ [] → HeardNone limit bytes next)
        → HeardNone limit (b ∷ bytes) r
    by (quiet past step signals) later =
        let rest = later (at_past past r) (sym signals ∙ e) in
        record {
          answered = record {
            replies_are =
                ap (λ (s : ReceiverStep). with_first s.reply (replies_of (on_byte_carefully limit) bytes s.after)) step
                ∙ rest.answered.replies_are;
            frames_are =
                ap (λ (s : ReceiverStep). with_first s.taken (taken_of (on_byte_carefully limit) bytes s.after)) step
                ∙ rest.answered.frames_are;
          };
          past = rest.past;
          after_is = ap (λ (s : ReceiverStep). after_bytes limit bytes s.after) step ∙ rest.after_is;
        }
    by (sounds signal past step signals) later =
        let never = sym signals ∙ e in
        absurd (cc)

-- the one thing that is heard, where it is heard
record HeardOne (limit : ℕ) (signal : CarefulSignal limit) (bytes : List ℕ) (r : ReceiverState) : Type 0 where
  before : List ℕ
  past : List ℕ
  replies_are : replies_of (on_byte_carefully limit) bytes r ≡ with_first (step_on signal (at_past before r)).reply []
  frames_are : taken_of (on_byte_carefully limit) bytes r ≡ with_first (step_on signal (at_past before r)).taken []
  after_is : after_bytes limit bytes r ≡ at_past past (step_on signal (at_past before r)).after

heard_one : (limit : ℕ) (signal : CarefulSignal limit) (bytes : List ℕ) (r : ReceiverState)
    → careful_signals limit bytes r ≡ signal ∷ [] → HeardOne limit signal bytes r
heard_one limit signal [] r e = cc
heard_one limit signal (b ∷ bytes) r e =
    by (first_of limit b bytes r) (λ next one. heard_one limit signal bytes next one)
  where
    by : First limit b bytes r
        → ((next : ReceiverState) → careful_signals limit bytes next ≡ signal ∷ [] → HeardOne limit signal bytes next)
        → HeardOne limit signal (b ∷ bytes) r
    by (quiet past step signals) later =
        let rest = later (at_past past r) (sym signals ∙ e) in
        record {
          before = rest.before;
          past = rest.past;
          replies_are =
              ap (λ (s : ReceiverStep). with_first s.reply (replies_of (on_byte_carefully limit) bytes s.after)) step
              ∙ rest.replies_are;
          frames_are =
              ap (λ (s : ReceiverStep). with_first s.taken (taken_of (on_byte_carefully limit) bytes s.after)) step
              ∙ rest.frames_are;
          after_is = ap (λ (s : ReceiverStep). after_bytes limit bytes s.after) step ∙ rest.after_is;
        }
    by (sounds other past step signals) later =
        let same = first_is other signal _ (sym signals ∙ e) in
        let here : ReceiverStep = step_on other (at_past past r) in
        let rest = heard_none limit bytes here.after (rest_is other signal _ (sym signals ∙ e)) in
        record {
          before = past;
          past = rest.past;
          replies_are =
              ap (λ (s : ReceiverStep). with_first s.reply (replies_of (on_byte_carefully limit) bytes s.after)) step
              ∙ ap (with_first here.reply) rest.answered.replies_are
              ∙ ap (λ x. with_first (step_on x (at_past past r)).reply []) same;
          frames_are =
              ap (λ (s : ReceiverStep). with_first s.taken (taken_of (on_byte_carefully limit) bytes s.after)) step
              ∙ ap (with_first here.taken) rest.answered.frames_are
              ∙ ap (λ x. with_first (step_on x (at_past past r)).taken []) same;
          after_is =
              ap (λ (s : ReceiverStep). after_bytes limit bytes s.after) step ∙ rest.after_is
              ∙ ap (λ x. at_past rest.past (step_on x (at_past past r)).after) same;
        }

-- ---- a frame that is due

due : (limit : ℕ) (r : ReceiverState) (frame : FrameContent) (number : ℕ) → r.is_open ≡ true
    → classified r frame ≡ Accepted number
    → ((heard_by {limit = limit} r.is_open (Good frame) r).reply ≡ Some ACK)
    × ((heard_by {limit = limit} r.is_open (Good frame) r).taken ≡ Some frame)
due limit r frame number is_open is =
    let step : heard_by {limit = limit} r.is_open (Good frame) r ≡ on_classified r frame (Accepted number) =
    ap (λ o. heard_by {limit = limit} o (Good frame) r) is_open ∙ ap (on_classified r frame) is in (
      ap (λ (s : ReceiverStep). s.reply) step,
      ap (λ (s : ReceiverStep). s.taken) step,
    )

good_answered : (limit : ℕ) (bytes : List ℕ) (frame : FrameContent) (number : ℕ) (r : ReceiverState)
    → r.is_open ≡ true → classified r frame ≡ Accepted number
    → careful_signals limit bytes r ≡ gives (Good frame) ∷ []
    → AreAnswered limit bytes (ACK ∷ []) (frame ∷ []) r
good_answered limit bytes frame number r is_open is signals =
    let one = heard_one limit (gives (Good frame)) bytes r signals in
    let given = due limit (at_past one.before r) frame number is_open is in
    record {
      replies_are = one.replies_are ∙ ap (λ reply. with_first reply []) given.0;
      frames_are = one.frames_are ∙ ap (λ taken. with_first taken []) given.1;
    }

pub start_silent : (limit : ℕ) (past rest : List ℕ)
    → signals_after limit (STX ∷ past) rest ≡ signals_after limit past (STX ∷ rest)
unfolding signal_after
start_silent limit past rest = refl

-- a frame that comes whole, between frames
whole_frame : (limit : ℕ) (bytes : List ℕ) (frame : FrameContent) (r : ReceiverState) → IsFrame limit bytes frame
    → open_body r.past ≡ None → careful_signals limit bytes r ≡ gives (Good frame) ∷ []
whole_frame limit bytes frame r is_frame outside =
    let rest : List ℕ = inner_of frame is_frame.high is_frame.low ++ LF ∷ [] in
    let bytes_are : bytes ≡ STX ∷ rest = encoding_of limit bytes frame is_frame in
    ap (λ xs. careful_signals limit xs r) bytes_are
    ∙ start_outside limit rest r outside
    ∙ signals-unspecial limit rest (with_heard (STX ∷ []) r) (unspecial_after_start limit bytes frame is_frame)
    ∙ ap (map gives) (start_silent limit r.past rest)
    ∙ ap (λ xs. map gives (signals_after limit r.past xs)) (sym bytes_are)
    ∙ ap (map gives) (heard_frame limit r.past bytes frame is_frame).0

-- ---- after a rejection no frame is unfinished

feed_last : (limit : ℕ) (xs : List ℕ) (r : ReceiverState)
    → open_body (after_bytes limit (xs ++ LF ∷ []) r).past ≡ None
unfolding open_body
feed_last limit [] r =
    ap (λ t. open_body (careful_by t limit LF r).after.past) (none_ends r.is_open)
    ∙ ap (λ c. open_body (on_byte limit c r).after.past) (feed_same (open_body r.past))
    ∙ ap open_body (on_byte-past limit LF r)
  where
    feed_same : (within : Option (List ℕ)) → heard_as within LF ≡ LF
    feed_same None = refl
    feed_same (Some body) = refl
feed_last limit (x ∷ xs) r = feed_last limit xs (on_byte_carefully limit x r).after

no_frame_is_bad : {limit : ℕ} (fault : FrameFault) (signals : List (CarefulSignal limit)) (A : Type 0)
    → (signals ≡ []) ⊎ (signals ≡ ends ∷ []) → signals ≡ gives (Bad fault) ∷ [] → A
no_frame_is_bad fault signals A (inl none) bad =
    let never = sym none ∙ bad in
    absurd (cc)
no_frame_is_bad fault signals A (inr ended) bad =
    let never = sym ended ∙ bad in
    absurd (cc)

opened : (past : List ℕ) → open_body (STX ∷ past) ≡ Some []
unfolding open_body
opened past = refl

between : (limit : ℕ) (r : ReceiverState) (frame : FrameContent) (before after : List ℕ) (was is : ℕ)
    (fault : FrameFault) → r.is_open ≡ true → open_body r.past ≡ None
    → IsFrame limit (before ++ was ∷ after) frame → was ≢ is
    → careful_signals limit (before ++ is ∷ after) r ≡ gives (Bad fault) ∷ []
    → open_body (after_bytes limit (before ++ is ∷ after) r).past ≡ None
between limit r frame before (a ∷ after) was is fault is_open outside is_frame differ bad =
    let inner : List ℕ = inner_of frame is_frame.high is_frame.low in
    let end = ends_with a after in
    let moved : (before ++ was ∷ end.front) ++ end.last ∷ [] ≡ (STX ∷ inner) ++ LF ∷ [] =
    append_assoc before (was ∷ end.front) (end.last ∷ [])
    ∙ ap (λ (xs : List ℕ). before ++ was ∷ xs) (sym end.list_is)
    ∙ encoding_of limit (before ++ was ∷ (a ∷ after)) frame is_frame in
    let last : end.last ≡ LF = (cancel_last (before ++ was ∷ end.front) (STX ∷ inner) end.last LF moved).1 in
    let ends_here : before ++ is ∷ (a ∷ after) ≡ (before ++ is ∷ end.front) ++ LF ∷ [] =
    ap (λ (xs : List ℕ). before ++ is ∷ xs) end.list_is
    ∙ sym (append_assoc before (is ∷ end.front) (end.last ∷ []))
    ∙ ap (λ (b : ℕ). (before ++ is ∷ end.front) ++ b ∷ []) last in
    ap (λ xs. open_body (after_bytes limit xs r).past) ends_here ∙ feed_last limit (before ++ is ∷ end.front) r
between limit r frame [] [] was is fault is_open outside is_frame differ bad =
    let e : was ∷ [] ≡ STX ∷ (inner_of frame is_frame.high is_frame.low ++ LF ∷ []) =
    encoding_of limit (was ∷ []) frame is_frame in
    absurd (cc)
between limit r frame (q ∷ f) [] was is fault is_open outside is_frame differ bad =
    let e : q ∷ (f ++ was ∷ []) ≡ STX ∷ (inner_of frame is_frame.high is_frame.low ++ LF ∷ []) =
    encoding_of limit (q ∷ (f ++ was ∷ [])) frame is_frame in
    let first : q ≡ STX = cc in
    let rest : f ++ was ∷ [] ≡ inner_of frame is_frame.high is_frame.low ++ LF ∷ [] = cc in
    let same : careful_signals limit (q ∷ (f ++ is ∷ [])) r
    ≡ careful_signals limit (f ++ is ∷ []) (with_heard (STX ∷ []) r) =
    ap (λ x. careful_signals limit (x ∷ (f ++ is ∷ [])) r) first ∙ start_outside limit (f ++ is ∷ []) r outside in
    no_frame_is_bad fault (careful_signals limit (f ++ is ∷ []) (with_heard (STX ∷ []) r)) _
    (last_place limit is (q ∷ (f ++ was ∷ [])) frame is_frame f was (with_heard (STX ∷ []) r) rest differ is_open
    (opened r.past)) (sym same ∙ bad)

-- ---- the law

module _ (limit : ℕ) (r : ReceiverState) (frame : FrameContent) (before after : List ℕ) (was is number : ℕ)
    (is_open : r.is_open ≡ true) (outside : open_body r.past ≡ None) (is_due : classified r frame ≡ Accepted number)
    (is_frame : IsFrame limit (before ++ was ∷ after) frame) (differ : was ≢ is) where
  abbrev damaged : List ℕ
  damaged = before ++ is ∷ after

  rejected : (fault : FrameFault) → careful_signals limit damaged r ≡ gives (Bad fault) ∷ []
      → Follows limit frame (before ++ was ∷ after) damaged r
  rejected fault bad =
      let one = heard_one limit (gives (Bad fault)) damaged r bad in
      let step : heard_by {limit = limit} r.is_open (Bad fault) (at_past one.before r)
      ≡ heard_by {limit = limit} true (Bad fault) (at_past one.before r) =
      ap (λ o. heard_by {limit = limit} o (Bad fault) (at_past one.before r)) is_open in
      let after_is : after_bytes limit damaged r ≡ at_past one.past r =
      one.after_is ∙ ap (λ (s : ReceiverStep). at_past one.past s.after) step in
      let rests : open_body one.past ≡ None =
      ap (λ (s : ReceiverState). open_body s.past) (sym after_is)
      ∙ between limit r frame before after was is fault is_open outside is_frame differ bad in
      is_sent_again (record {
        replies_are = one.replies_are ∙ ap (λ (s : ReceiverStep). with_first s.reply []) step;
        frames_are = one.frames_are ∙ ap (λ (s : ReceiverStep). with_first s.taken []) step;
      }) (subst (AreAnswered limit (before ++ was ∷ after) (ACK ∷ []) (frame ∷ [])) (sym after_is)
      (good_answered limit (before ++ was ∷ after) frame number (at_past one.past r) is_open is_due
      (whole_frame limit (before ++ was ∷ after) frame (at_past one.past r) is_frame rests)))

  by_heard : IsHeardAs frame (careful_signals limit damaged r) → Follows limit frame (before ++ was ∷ after) damaged r
  by_heard (nothing none) = is_silent (heard_none limit damaged r none).answered
  by_heard (session_end ended) =
      let one = heard_one limit ends damaged r ended in
      is_silent (record { replies_are = one.replies_are; frames_are = one.frames_are })
  by_heard (bad_frame fault bad) = rejected fault bad
  by_heard (itself good) = is_taken (good_answered limit damaged frame number r is_open is_due good)

pub follows_one_byte : (limit : ℕ) → FollowsOneByte limit
follows_one_byte limit = record {
  receiver = λ r frame before after was is number is_open outside is_due is_frame differ small small'.
      by_heard limit r frame before after was is number is_open outside is_due is_frame differ
      (one_byte_is_noticed limit r frame before after was is is_open outside is_frame differ small small');
  sender = λ s awaits. (
    ap (λ (p : Phase). (timer_in {limit = limit} p s).after.outcome) awaits,
    ap (λ (p : Phase). (timer_in {limit = limit} p s).after.acknowledged) awaits,
  );
}
