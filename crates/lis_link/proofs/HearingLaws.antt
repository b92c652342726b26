-- Hearing bytes up to the first that is not quiet.
use Rattle.std.proofs.Common.{◌≡◌, ◌≢◌, ℕ, zero, suc, ◌+◌, ◌%◌, ◌≤◌, ◌<◌, Bool, true, false, List, [], ◌∷◌, ◌++◌}
use Rattle.std.proofs.Common.{Option, None, Some, length, take, drop, refl, ap, sym, ◌∙◌, subst, arith, append_assoc}
use Rattle.std.proofs.Common.{length-append, length-drop, take-append-drop, take-add, drop-drop, get_or}
use Rattle.std.proofs.lemmas.List.{length-take-le, nil_from_length}
use Rattle.std.specs.Prelude.{nat_lt, nat_le, ◌==◌, ◌&&◌, not, if◌then◌else◌}
use Rattle.std.proofs.lemmas.Bool.Decides.{nat_tests}
use Rattle.lis_text.specs.Control.{STX, CR, LF, ENQ, EOT}
use Rattle.lis_frame.specs.declared.scanner.SignalOf.{SignalOf}
use Rattle.lis_frame.specs.declared.scanner.SignalOf.TheVariants.{Enq, Eot, Good, Bad}
use Rattle.lis_frame.specs.Frame.{FrameContent, IsFrame, number_byte, end_byte, digit_value}
use Rattle.lis_frame.specs.Scanner.{Held, StandsFor, held_of}
use Rattle.lis_frame.specs.Stream.{open_body, signal_after, signals_after, with_signal, stream_with}
use Rattle.lis_text.specs.LinkText.{longest_text}
use Rattle.lis_frame.proofs.StreamLaws.{signals_after-append, clean_run, stream_with-append}
use Rattle.lis_link.specs.declared.receiver.Hearing.{Hearing}
use Rattle.lis_link.specs.declared.receiver.Note.{Note}
use Rattle.lis_link.specs.declared.receiver.Note.TheVariants.{Quiet, Accepted, Duplicate, OutOfTurn, NoRoom, TooMany}
use Rattle.lis_link.specs.declared.receiver.Note.TheVariants.{TooLong, OutOfMemory}
use Rattle.lis_text.specs.declared.readiness.Readiness.{Readiness}
use Rattle.lis_text.specs.declared.readiness.Readiness.TheVariants.{Ready, Busy, Contending}
use Rattle.lis_link.specs.declared.receiver.Step.{Step}
use Rattle.lis_link.specs.Kept.{Kept, KeptLine, kept_of}
use Rattle.lis_link.specs.Representation.{IsIn, IsStepMade, RefusesFrame, SpareAfter}
use Rattle.lis_link.specs.inside.Representation.{HearsFront}
use Rattle.lis_link.specs.Receiver.{ReceiverState, ReceiverStep, ReceiverHearing, answers, answered_request}
use Rattle.lis_link.specs.Receiver.{classified_by, classified}
use Rattle.lis_link.specs.Receiver.{on_classified, held_text, most_frames, heard_by, heard, on_byte, on_bytes, heard_on}
use Rattle.lis_link.specs.Receiver.{with_heard}

-- what is found of a frame is never nothing
classified_by-loud : (accepted held : ℕ) (room : Bool) (number bytes : ℕ)
    → classified_by accepted held room number bytes ≢ Quiet
classified_by-loud accepted held room number bytes =
    by (nat_lt 0 accepted && number == accepted % 8) (not (number == (accepted + 1) % 8)) (not room)
    (accepted == most_frames) (nat_lt longest_text (held + bytes))
  where
    by :
        (repeated late full many long : Bool) →
        (if repeated then Duplicate number
        else if late then OutOfTurn number
        else if full then NoRoom
        else if many then TooMany
        else if long then TooLong
        else Accepted number) ≢ Quiet
    by true late full many long e = cc
    by false true full many long e = cc
    by false false true many long e = cc
    by false false false true long e = cc
    by false false false false true e = cc
    by false false false false false e = cc

on_classified-note : (r : ReceiverState) (frame : FrameContent) (note : Note) → (on_classified r frame note).note ≡ note
on_classified-note r frame (Accepted number) = refl
on_classified-note r frame (Duplicate number) = refl
on_classified-note r frame _ = refl

answered_request-quiet : (readiness : Readiness) (r : ReceiverState) → (answered_request readiness r).note ≡ Quiet
    → answered_request readiness r ≡ answers None Quiet r
answered_request-quiet Ready r e = cc
answered_request-quiet Busy r e = cc
answered_request-quiet Contending r e = cc

heard_by-quiet :
    {limit : ℕ} (is_open : Bool) (signal : SignalOf limit) (r : ReceiverState)
    → (heard_by is_open signal r).note ≡ Quiet →
    heard_by is_open signal r ≡ answers None Quiet r
heard_by-quiet true Enq r e = answered_request-quiet r.readiness r e
heard_by-quiet true Eot r e = cc
heard_by-quiet true (Good frame) r e =
    absurd
    (classified_by-loud (length r.accepted) (length (held_text r)) r.room frame.number (length frame.text)
    (sym (on_classified-note r frame (classified r frame)) ∙ e))
heard_by-quiet true (Bad fault) r e = cc
heard_by-quiet false Enq r e = answered_request-quiet r.readiness r e
heard_by-quiet false Eot r e = refl
heard_by-quiet false (Good frame) r e = refl
heard_by-quiet false (Bad fault) r e = refl

-- a quiet step changes nothing and delivers nothing
heard-quiet :
    {limit : ℕ} (signal : Option (SignalOf limit)) (r : ReceiverState) → (heard signal r).note ≡ Quiet
    → heard signal r ≡ answers None Quiet r
heard-quiet None r e = refl
heard-quiet (Some signal) r e = heard_by-quiet r.is_open signal r e

-- a quiet byte changes the stream alone
pub on_byte-quiet :
    (limit b : ℕ) (r : ReceiverState) → (on_byte limit b r).note ≡ Quiet
    → on_byte limit b r ≡ answers None Quiet (with_heard (b ∷ []) r)
on_byte-quiet limit b r e = heard-quiet (signal_after limit r.past b) (with_heard (b ∷ []) r) e

-- so many quiet bytes, and those after them
abbrev pub passed : ℕ → ReceiverHearing → ReceiverHearing
passed count following = record { count = count + following.count; step = following.step }

passed-none : (following : ReceiverHearing) → following ≡ passed 0 following
passed-none following =
    let none : following.count ≡ 0 + following.count = omega arith in
    ap (λ (n : ℕ). record following { count = n }) none

passed-passed : (m n : ℕ) (following : ReceiverHearing) → passed m (passed n following) ≡ passed (m + n) following
passed-passed m n following =
    let sum : m + (n + following.count) ≡ m + n + following.count = omega arith in
    ap (λ (k : ℕ). record following { count = k }) sum

passed-heard_on :
    (m n : ℕ) (note : Note) (step : ReceiverStep) (following : ReceiverHearing) →
    passed m (heard_on n note step following) ≡ heard_on (m + n) note step following
passed-heard_on m n Quiet step following = passed-passed m n following
passed-heard_on m n _ step following = refl

-- bytes that give no signal are quiet
on_bytes-silent :
    (limit : ℕ) (run following : List ℕ) (r : ReceiverState) → signals_after limit r.past run ≡ [] →
    on_bytes limit (run ++ following) r ≡ passed (length run) (on_bytes limit following (with_heard run r))
on_bytes-silent limit [] following r silent = passed-none (on_bytes limit following r)
on_bytes-silent limit (b ∷ run) following r silent = by (signal_after limit r.past b) silent
    (on_bytes-silent limit run following (with_heard (b ∷ []) r))
  where
    next : ReceiverState
    next = with_heard (b ∷ []) r

    by :
        (signal : Option (SignalOf limit)) →
        with_signal signal (signals_after limit (b ∷ r.past) run) ≡ [] →
        (signals_after limit (b ∷ r.past) run ≡ [] →
        on_bytes limit (run ++ following) (with_heard (b ∷ []) r)
        ≡ passed (length run) (on_bytes limit following (with_heard (b ∷ run) r))) →
        heard_on 1 (heard signal (with_heard (b ∷ []) r)).note (heard signal (with_heard (b ∷ []) r))
        (on_bytes limit (run ++ following) (with_heard (b ∷ []) r))
        ≡ passed (suc (length run)) (on_bytes limit following (with_heard (b ∷ run) r))
    by None none later = ap (passed 1) (later none)
        ∙ passed-passed 1 (length run) (on_bytes limit following (with_heard (b ∷ run) r))
        ∙ ap (λ n. passed n (on_bytes limit following (with_heard (b ∷ run) r))) (omega arith)
    by (Some signal) none later = absurd cc

-- and a byte after them is answered as it is by itself
on_bytes-last :
    (limit b : ℕ) (run following : List ℕ) (r : ReceiverState) → signals_after limit r.past run ≡ [] →
    on_bytes limit (run ++ b ∷ following) r
    ≡ heard_on (length run + 1) (on_byte limit b (with_heard run r)).note (on_byte limit b (with_heard run r))
    (on_bytes limit following (with_heard (b ∷ []) (with_heard run r)))
on_bytes-last limit b run following r silent =
    on_bytes-silent limit run (b ∷ following) r silent
    ∙ passed-heard_on (length run) 1 (on_byte limit b (with_heard run r)).note (on_byte limit b (with_heard run r))
    (on_bytes limit following (with_heard (b ∷ []) (with_heard run r)))

-- a byte that is none of ENQ, EOT and LF
record IsSilent (b : ℕ) : Type 0 where
  no_enquiry : (b == ENQ) ≡ false
  no_ending : (b == EOT) ≡ false
  no_line_feed : (b == LF) ≡ false

signal-silent : (limit b : ℕ) (past : List ℕ) → IsSilent b → signal_after limit past b ≡ None
unfolding signal_after
signal-silent limit b past silent = rw (silent.no_enquiry, silent.no_ending, silent.no_line_feed) refl

silent_digit : (b value : ℕ) → digit_value b ≡ Some value → IsSilent b
silent_digit b value h = by (nat_le 48 b) refl
  where
    by : (test : Bool) → nat_le 48 b ≡ test → IsSilent b
    by true e = record {
      no_enquiry = grind (arith, nat_tests);
      no_ending = grind (arith, nat_tests);
      no_line_feed = grind (arith, nat_tests);
    }
    by false e =
        let upper : nat_le 65 b ≡ false = grind (arith, nat_tests) in
        let lower : nat_le 97 b ≡ false = grind (arith, nat_tests) in
        let none = rw (e, upper, lower) at h in
        absurd cc

silent_end : (last : Bool) → IsSilent (end_byte last)
silent_end true = record { no_enquiry = refl; no_ending = refl; no_line_feed = refl }
silent_end false = record { no_enquiry = refl; no_ending = refl; no_line_feed = refl }

-- the bytes of a frame before its LF
abbrev pub before_feed : FrameContent → ℕ → ℕ → List ℕ
before_feed frame high low = STX ∷ number_byte frame.number
    ∷ (frame.text ++ (end_byte frame.last ∷ high ∷ low ∷ CR ∷ []))

signals-before_feed : (limit : ℕ) (past bytes : List ℕ) (frame : FrameContent)
    → (is_frame : IsFrame limit bytes frame) →
    signals_after limit past (before_feed frame is_frame.high is_frame.low) ≡ []
unfolding StandsFor
signals-before_feed limit past bytes frame is_frame =
    let start : List ℕ = number_byte frame.number ∷ STX ∷ past in
    let ending : List ℕ = end_byte frame.last ∷ is_frame.high ∷ is_frame.low ∷ CR ∷ [] in
    let inside : List ℕ = stream_with start frame.text in
    let stx : signal_after limit past STX ≡ None =
    signal-silent limit STX past (record { no_enquiry = refl; no_ending = refl; no_line_feed = refl }) in
    let number : signal_after limit (STX ∷ past) (number_byte frame.number) ≡ None =
    signal-silent limit (number_byte frame.number) (STX ∷ past) (record {
      no_enquiry = grind (arith, nat_tests);
      no_ending = grind (arith, nat_tests);
      no_line_feed = grind (arith, nat_tests);
    }) in
    let text : signals_after limit start frame.text ≡ [] =
    (clean_run limit (held_of limit (open_body start)) frame.text start refl is_frame.content.is_text.clean).0 in
    let end : signal_after limit inside (end_byte frame.last) ≡ None =
    signal-silent limit (end_byte frame.last) inside (silent_end frame.last) in
    let high : signal_after limit (end_byte frame.last ∷ inside) is_frame.high ≡ None =
    signal-silent limit is_frame.high (end_byte frame.last ∷ inside)
    (silent_digit is_frame.high is_frame.digits.high_value is_frame.digits.is_high) in
    let low : signal_after limit (is_frame.high ∷ end_byte frame.last ∷ inside) is_frame.low ≡ None =
    signal-silent limit is_frame.low (is_frame.high ∷ end_byte frame.last ∷ inside)
    (silent_digit is_frame.low is_frame.digits.low_value is_frame.digits.is_low) in
    let close : signal_after limit (is_frame.low ∷ is_frame.high ∷ end_byte frame.last ∷ inside) CR ≡ None =
    signal-silent limit CR (is_frame.low ∷ is_frame.high ∷ end_byte frame.last ∷ inside)
    (record { no_enquiry = refl; no_ending = refl; no_line_feed = refl }) in
    let following : signals_after limit inside ending ≡ [] = rw (end, high, low, close) refl in
    rw (stx, number) (signals_after-append limit frame.text ending start ∙ rw (text, following) refl)

one_signal : {limit : ℕ} (reported : Option (SignalOf limit)) (signal : SignalOf limit)
    → with_signal reported [] ≡ signal ∷ [] → reported ≡ Some signal
one_signal None signal e = absurd cc
one_signal (Some other) signal e = cc

-- the bytes of a frame: none but the last gives a signal, which is the frame
pub record EndsIn (limit : ℕ) (past bytes : List ℕ) (frame : FrameContent) : Type 0 where
  pub before : List ℕ
  pub bytes_are : bytes ≡ before ++ LF ∷ []
  pub silent : signals_after limit past before ≡ []
  pub heard_last : signal_after limit (stream_with past before) LF ≡ Some (Good frame)

pub frame_ends :
    (limit : ℕ) (past bytes : List ℕ) (frame : FrameContent) → IsFrame limit bytes frame
    → signals_after limit past bytes ≡ Good frame ∷ [] →
    EndsIn limit past bytes frame
frame_ends limit past bytes frame is_frame signals =
    let before : List ℕ = before_feed frame is_frame.high is_frame.low in
    let ending : List ℕ = end_byte frame.last ∷ is_frame.high ∷ is_frame.low ∷ CR ∷ [] in
    let bytes_are : bytes ≡ before ++ LF ∷ [] =
    is_frame.encoding
    ∙ ap (λ (xs : List ℕ). STX ∷ number_byte frame.number ∷ xs) (sym (append_assoc frame.text ending (LF ∷ []))) in
    let silent : signals_after limit past before ≡ [] = signals-before_feed limit past bytes frame is_frame in
    let last : signals_after limit (stream_with past before) (LF ∷ []) ≡ Good frame ∷ [] =
    ap (λ xs. xs ++ signals_after limit (stream_with past before) (LF ∷ [])) (sym silent)
    ∙ sym (signals_after-append limit before (LF ∷ []) past)
    ∙ ap (signals_after limit past) (sym bytes_are)
    ∙ signals in
    record {
      before = before;
      bytes_are = bytes_are;
      silent = silent;
      heard_last = one_signal (signal_after limit (stream_with past before) LF) (Good frame) last;
    }

-- the line is the same next to a scanner that has read more
pub beside :
    (limit : ℕ) (line : KeptLine) (before scanner : Held) (kept : Kept) (r : ReceiverState) (bytes : List ℕ)
    → kept_of line before ≡ kept →
    IsIn limit kept r → StandsFor limit scanner (stream_with r.past bytes)
    → IsIn limit (kept_of line scanner) (with_heard bytes r)
beside limit line before scanner kept r bytes same is_in represents =
    let here : IsIn limit (kept_of line before) r = subst (λ k. IsIn limit k r) (sym same) is_in in
    record {
      open_is = here.open_is;
      accepted_is = here.accepted_is;
      readiness_is = here.readiness_is;
      room_is = here.room_is;
      held_is = here.held_is;
      stream_is = represents;
    }

-- the front of bytes is one byte
pub front_byte :
    (limit : ℕ) (bytes : List ℕ) (r : ReceiverState) (spare : ℕ) (result : Step) (new : Kept) → 0 < length bytes →
    (result.note ≢ OutOfMemory → IsStepMade limit (on_byte limit (get_or bytes 0 0) r) result new) →
    (result.note ≡ OutOfMemory → RefusesFrame limit spare (on_byte limit (get_or bytes 0 0) r)
    (with_heard (get_or bytes 0 0 ∷ []) r) result new) →
    SpareAfter spare new.spare (on_byte limit (get_or bytes 0 0) r).taken
    → HearsFront limit bytes r spare (record { count = 1; step = result }) new
front_byte limit [] r spare result new some makes refused spare_after = absurd (omega arith)
front_byte limit (b ∷ following) r spare result new some makes refused spare_after = record {
  meant = on_byte limit b r;
  goes_on = refl;
  quiet = on_byte-quiet limit b r;
  makes = makes;
  refused = refused;
  spare_after = spare_after;
}

-- it is the first of any bytes that begin with it
pub same_first :
    (xs ys : List ℕ) → 0 < length xs → 0 < length ys → take 1 xs ≡ take 1 ys → get_or xs 0 0 ≡ get_or ys 0 0
same_first [] ys some others same = absurd (omega (some, arith))
same_first (x ∷ xs) [] some others same = absurd (omega (others, arith))
same_first (x ∷ xs) (y ∷ ys) some others same = cc

-- it is a run of bytes that give no signal
pub front_run :
    (limit count : ℕ) (bytes : List ℕ) (r : ReceiverState) (spare : ℕ) (result : Step) (new : Kept)
    → count ≤ length bytes →
    signals_after limit r.past (take count bytes) ≡ [] → IsIn limit new (with_heard (take count bytes) r) →
    result ≡ record { reply = None; message = None; note = Quiet } → spare ≤ new.spare →
    HearsFront limit bytes r spare (record { count = count; step = result }) new
front_run limit count bytes r spare result new bound silent is_in is_quiet spare_kept =
    let next : ReceiverState = with_heard (take count bytes) r in
    let length_is : length (take count bytes) ≡ count = length-take-le count bytes bound in
    let note_is : result.note ≡ Quiet = ap (λ (s : Step). s.note) is_quiet in
    record {
      meant = answers None Quiet next;
      goes_on =
          ap (λ xs. on_bytes limit xs r) (sym (take-append-drop count bytes))
          ∙ on_bytes-silent limit (take count bytes) (drop count bytes) r silent
          ∙ ap (λ n. passed n (on_bytes limit (drop count bytes) next)) length_is;
      quiet = λ e. refl;
      makes = λ e. record {
        answer = record {
          reply_is = ap (λ (s : Step). s.reply) is_quiet;
          message_is = ap (λ (s : Step). s.message) is_quiet;
          note_is = note_is;
        };
        state = is_in;
      };
      refused = λ e. absurd cc;
      spare_after = spare_kept;
    }

-- it is a frame
pub front_frame :
    (limit count : ℕ) (bytes : List ℕ) (frame : FrameContent) (r : ReceiverState) (spare : ℕ) (result : Step)
    (new : Kept) →
    count ≤ length bytes → IsFrame limit (take count bytes) frame
    → signals_after limit r.past (take count bytes) ≡ Good frame ∷ [] →
    (result.note ≢ OutOfMemory → IsStepMade limit (heard_by {limit = limit} r.is_open (Good frame)
    (with_heard (take count bytes) r)) result new) →
    (result.note ≡ OutOfMemory →
    RefusesFrame limit spare (heard_by {limit = limit} r.is_open (Good frame) (with_heard (take count bytes) r))
    (with_heard (take count bytes) r) result new) →
    SpareAfter spare new.spare (heard_by {limit = limit} r.is_open (Good frame)
    (with_heard (take count bytes) r)).taken →
    HearsFront limit bytes r spare (record { count = count; step = result }) new
front_frame limit count bytes frame r spare result new bound is_frame signals makes refused spare_after =
    let ends = frame_ends limit r.past (take count bytes) frame is_frame signals in
    let following : List ℕ = drop count bytes in
    let last : ReceiverState = with_heard (LF ∷ []) (with_heard ends.before r) in
    let next : ReceiverState = with_heard (take count bytes) r in
    let past_is : stream_with r.past (take count bytes) ≡ LF ∷ stream_with r.past ends.before =
    ap (stream_with r.past) ends.bytes_are ∙ stream_with-append ends.before (LF ∷ []) r.past in
    let state_is : last ≡ next = ap (λ past. record r { past = past }) (sym past_is) in
    let step_is : on_byte limit LF (with_heard ends.before r) ≡ heard_by {limit = limit} r.is_open (Good frame) next =
    ap (λ signal. heard {limit = limit} signal last) ends.heard_last
    ∙ ap (λ (s : ReceiverState). heard_by {limit = limit} s.is_open (Good frame) s) state_is in
    let count_is : length ends.before + 1 ≡ count =
    sym (length-append ends.before (LF ∷ [])) ∙ ap length (sym ends.bytes_are) ∙ length-take-le count bytes bound in
    record {
      meant = heard_by {limit = limit} r.is_open (Good frame) next;
      goes_on =
          ap (λ xs. on_bytes limit xs r)
          (sym (take-append-drop count bytes) ∙ ap (λ xs. xs ++ following) ends.bytes_are
          ∙ append_assoc ends.before (LF ∷ []) following)
          ∙ on_bytes-last limit LF ends.before following r ends.silent
          ∙ ap (λ n. heard_on n (on_byte limit LF (with_heard ends.before r)).note
          (on_byte limit LF (with_heard ends.before r)) (on_bytes limit following last)) count_is
          ∙ ap (λ (s : ReceiverStep). heard_on count s.note s (on_bytes limit following last)) step_is
          ∙ ap
          (λ (s : ReceiverState). heard_on count (heard_by {limit = limit} r.is_open (Good frame) next).note
          (heard_by {limit = limit} r.is_open (Good frame) next) (on_bytes limit following s))
          state_is;
      quiet = heard_by-quiet {limit = limit} r.is_open (Good frame) next;
      makes = makes;
      refused = refused;
      spare_after = spare_after;
    }

-- so many bytes were heard, and each was quiet
pub record IsHearing (limit : ℕ) (bytes : List ℕ) (r : ReceiverState) (spare count : ℕ) (kept : Kept) : Type 0 where
  pub state : IsIn limit kept (with_heard (take count bytes) r)
  pub goes_on : on_bytes limit bytes r ≡ passed count
      (on_bytes limit (drop count bytes) (with_heard (take count bytes) r))
  pub spare_kept : spare ≤ kept.spare

-- and then the front of the rest was heard
module _ (limit : ℕ) (bytes : List ℕ) (r : ReceiverState) (spare count : ℕ) (kept : Kept) (more : Hearing)
    (new : Kept) where
  next : ReceiverState
  next = with_heard (take (count + more.count) bytes) r

  later : ReceiverHearing
  later = on_bytes limit (drop (count + more.count) bytes) next

  next_is : with_heard (take more.count (drop count bytes)) (with_heard (take count bytes) r) ≡ next
  unfolding next
  next_is =
      ap (λ past. record r { past = past })
      (sym (stream_with-append (take count bytes) (take more.count (drop count bytes)) r.past)
      ∙ ap (stream_with r.past) (sym (take-add count more.count bytes)))

  goes_on_more :
      IsHearing limit bytes r spare count kept →
      (front : HearsFront limit (drop count bytes) (with_heard (take count bytes) r) kept.spare more new) →
      on_bytes limit bytes r ≡ heard_on (count + more.count) front.meant.note front.meant later
  unfolding later
  goes_on_more hearing front =
      hearing.goes_on
      ∙ ap (passed count) front.goes_on
      ∙ passed-heard_on count more.count front.meant.note front.meant
      (on_bytes limit (drop more.count (drop count bytes))
      (with_heard (take more.count (drop count bytes)) (with_heard (take count bytes) r)))
      ∙ ap (λ xs. heard_on (count + more.count) front.meant.note front.meant
      (on_bytes limit xs (with_heard (take more.count (drop count bytes)) (with_heard (take count bytes) r))))
      (drop-drop more.count count bytes)
      ∙ ap (λ (s : ReceiverState). heard_on (count + more.count) front.meant.note front.meant
      (on_bytes limit (drop (count + more.count) bytes) s)) next_is

  -- bytes that are quiet too
  pub hears_more :
      IsHearing limit bytes r spare count kept → HearsFront limit (drop count bytes)
      (with_heard (take count bytes) r) kept.spare more new →
      more.step.note ≡ Quiet → IsHearing limit bytes r spare (count + more.count) new
  unfolding next later
  hears_more hearing front is_quiet =
      let fine : more.step.note ≢ OutOfMemory = λ e. cc in
      let made = front.makes fine in
      let note_is : front.meant.note ≡ Quiet = sym made.answer.note_is ∙ is_quiet in
      let meant_is = front.quiet note_is in
      let after_is : front.meant.after ≡ next = ap (λ (s : ReceiverStep). s.after) meant_is ∙ next_is in
      let taken_is : front.meant.taken ≡ None = ap (λ (s : ReceiverStep). s.taken) meant_is in
      let spare_kept : kept.spare ≤ new.spare = subst (λ t. SpareAfter kept.spare new.spare t) taken_is
      front.spare_after in
      record {
        state = subst (λ s. IsIn limit new s) after_is made.state;
        goes_on = goes_on_more hearing front ∙ ap (λ note. heard_on (count + more.count) note front.meant later)
            note_is;
        spare_kept = omega (arith, hearing.spare_kept);
      }

heard_on-loud :
    (count : ℕ) (note : Note) (step : ReceiverStep) (following : ReceiverHearing) → note ≢ Quiet →
    heard_on count note step following ≡ record { count = count; step = step }
heard_on-loud count Quiet step following loud = absurd (loud refl)
heard_on-loud count _ step following loud = refl

-- the answer to bytes is that of the definition
pub record IsHeard (limit : ℕ) (bytes : List ℕ) (r : ReceiverState) (spare : ℕ) (hearing : Hearing) (new : Kept) :
    Type 0 where
  pub count_is : hearing.count ≡ (on_bytes limit bytes r).count
  pub makes : hearing.step.note ≢ OutOfMemory → IsStepMade limit (on_bytes limit bytes r).step hearing.step new
  pub refused :
      hearing.step.note ≡ OutOfMemory → RefusesFrame limit spare (on_bytes limit bytes r).step
      (with_heard (take hearing.count bytes) r) hearing.step new
  pub spare_after : SpareAfter spare new.spare (on_bytes limit bytes r).step.taken

more_spare : (spare before after : ℕ) (taken : Option FrameContent) → spare ≤ before → SpareAfter before after taken
    → SpareAfter spare after taken
more_spare spare before after None less rises = omega (arith, less, rises)
more_spare spare before after (Some frame) less rises = λ is_last. omega (arith, less, rises is_last)

refused_more :
    (limit spare before : ℕ) (step : ReceiverStep) (r : ReceiverState) (result : Step) (new : Kept) → spare ≤ before
    → RefusesFrame limit before step r result new →
    RefusesFrame limit spare step r result new
refused_more limit spare before step r result new less h = record {
  frame = h.frame;
  would_accept = h.would_accept;
  too_long = omega (arith, less, h.too_long);
  reply_is = h.reply_is;
  message_is = h.message_is;
  spare_kept = omega (arith, less, h.spare_kept);
  state = h.state;
}

-- or bytes whose last is not quiet
pub hears_last :
    (limit : ℕ) (bytes : List ℕ) (r : ReceiverState) (spare count : ℕ) (kept : Kept) (more : Hearing) (new : Kept) →
    IsHearing limit bytes r spare count kept →
    HearsFront limit (drop count bytes) (with_heard (take count bytes) r) kept.spare more new → more.step.note ≢ Quiet →
    IsHeard limit bytes r spare (record { count = count + more.count; step = more.step }) new
unfolding next later
hears_last limit bytes r spare count kept more new hearing front loud =
    let state_is = next_is limit bytes r spare count kept more new in
    let meant_loud : front.meant.note ≢ Quiet = λ e.
    let taken_is : front.meant.taken ≡ None = ap (λ (s : ReceiverStep). s.taken) (front.quiet e) in
    let fine : more.step.note ≢ OutOfMemory = λ oom. let accepted = (front.refused oom).would_accept in cc in
    loud ((front.makes fine).answer.note_is ∙ e) in
    let all : on_bytes limit bytes r ≡ record { count = count + more.count; step = front.meant } =
    goes_on_more limit bytes r spare count kept more new hearing front
    ∙ heard_on-loud (count + more.count) front.meant.note front.meant _ meant_loud in
    record {
      count_is = sym (ap (λ (h : ReceiverHearing). h.count) all);
      makes = λ fine. subst (λ (h : ReceiverHearing). IsStepMade limit h.step more.step new) (sym all)
          (front.makes fine);
      refused = λ oom.
          subst (λ (h : ReceiverHearing). RefusesFrame limit spare h.step
          (with_heard (take (count + more.count) bytes) r) more.step new) (sym all)
          (subst (λ s. RefusesFrame limit spare front.meant s more.step new) state_is
          (refused_more limit spare kept.spare front.meant _ more.step new hearing.spare_kept (front.refused oom)));
      spare_after =
          subst (λ (h : ReceiverHearing). SpareAfter spare new.spare h.step.taken) (sym all)
          (more_spare spare kept.spare new.spare front.meant.taken hearing.spare_kept front.spare_after);
    }

-- bytes that are a front, and nothing comes after them
heard_alone : (count : ℕ) (step : ReceiverStep) (next : ReceiverState)
    → (step.note ≡ Quiet → step ≡ answers None Quiet next)
    → heard_on count step.note step (record { count = 0; step = answers None Quiet next })
    ≡ record { count = count; step = step }
heard_alone count step next quiet = by step.note refl
  where
    by : (note : Note) → step.note ≡ note
        → heard_on count note step (record { count = 0; step = answers None Quiet next })
        ≡ record { count = count; step = step }
    by Quiet e =
        let all : count + 0 ≡ count = omega arith in
        ap (λ (n : ℕ). record { count = n; step = answers None Quiet next }) all
        ∙ ap (λ (s : ReceiverStep). record { count = count; step = s }) (sym (quiet e))
    by note e = refl

pub front_alone :
    (limit : ℕ) (bytes : List ℕ) (r : ReceiverState) (spare : ℕ) (result : Hearing) (new : Kept)
    → length bytes ≡ result.count → HearsFront limit bytes r spare result new → IsHeard limit bytes r spare result new
front_alone limit bytes r spare result new all front =
    let none : drop result.count bytes ≡ [] =
    nil_from_length (drop result.count bytes) (omega (arith, length-drop result.count bytes, all)) in
    let heard_is : on_bytes limit bytes r ≡ record { count = result.count; step = front.meant } =
    front.goes_on
    ∙ ap (λ xs. heard_on result.count front.meant.note front.meant
    (on_bytes limit xs (with_heard (take result.count bytes) r))) none
    ∙ heard_alone result.count front.meant (with_heard (take result.count bytes) r) front.quiet in
    record {
      count_is = sym (ap (λ (h : ReceiverHearing). h.count) heard_is);
      makes = λ fine. subst (λ (h : ReceiverHearing). IsStepMade limit h.step result.step new) (sym heard_is)
          (front.makes fine);
      refused = λ oom.
          subst (λ (h : ReceiverHearing). RefusesFrame limit spare h.step
          (with_heard (take result.count bytes) r) result.step new) (sym heard_is) (front.refused oom);
      spare_after = subst (λ (h : ReceiverHearing). SpareAfter spare new.spare h.step.taken) (sym heard_is)
          front.spare_after;
    }

-- the first of the first bytes
pub taken_twice : (n : ℕ) (xs : List ℕ) → take n (take n xs) ≡ take n xs
taken_twice zero xs = refl
taken_twice (suc n) [] = refl
taken_twice (suc n) (x ∷ xs) = ap (λ (ys : List ℕ). x ∷ ys) (taken_twice n xs)
