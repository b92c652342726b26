-- Bytes up to the first that gives a signal.
use Rattle.std.proofs.Common.{◌≡◌, ℕ, ◌+◌, ◌-◌, ◌<◌, ◌≤◌, List, [], ◌∷◌, ◌++◌, Option, None, Some}
use Rattle.std.proofs.Common.{length, take, drop, get_or, refl, ap, sym, ◌∙◌, subst, arith}
use Rattle.std.proofs.Common.{length-append, length-drop, take-append-drop, take-add}
use Rattle.std.proofs.lemmas.List.{length-take-le, take-take, take_at}
use Rattle.std.specs.Option.{option_to_list}
use Rattle.lis_text.specs.Control.{LF}
use Rattle.lis_frame.specs.declared.scanner.SignalOf.{SignalOf}
use Rattle.lis_frame.specs.declared.scanner.SignalOf.TheVariants.{Good}
use Rattle.lis_frame.specs.Frame.{FrameContent, IsFrame}
use Rattle.lis_frame.specs.Scanner.{Held, StandsFor}
use Rattle.lis_frame.specs.Stream.{signal_after, signals_after, stream_with, with_signal}
use Rattle.lis_frame.proofs.StreamLaws.{signals_after-append, stream_with-append}
use Rattle.lis_link.proofs.HearingLaws.{frame_ends}
use Rattle.lis_c.specs.Feeding.{SignalsLast}

-- one byte
pub one_byte : (limit : ℕ) (past bytes : List ℕ) → 0 < length bytes →
    SignalsLast limit past bytes 1 (signal_after limit past (get_or bytes 0 0))
one_byte limit past [] some = absurd (omega (some, arith))
one_byte limit past (b ∷ bytes) some = record {
  within = omega arith;
  reports = by (signal_after limit past b);
  before = refl;
}
  where
    by : (signal : Option (SignalOf limit)) → with_signal signal [] ≡ option_to_list signal
    by None = refl
    by (Some signal) = refl

-- the front of bytes that give no signal gives none
signals-front : (limit : ℕ) (past xs ys : List ℕ) → signals_after limit past (xs ++ ys) ≡ [] →
    signals_after limit past xs ≡ []
signals-front limit past [] ys none = refl
signals-front limit past (x ∷ xs) ys none =
    by (signal_after limit past x) none (signals-front limit (x ∷ past) xs ys)
  where
    by :
        (signal : Option (SignalOf limit)) → with_signal signal (signals_after limit (x ∷ past) (xs ++ ys)) ≡ [] →
        (signals_after limit (x ∷ past) (xs ++ ys) ≡ [] → signals_after limit (x ∷ past) xs ≡ []) →
        with_signal signal (signals_after limit (x ∷ past) xs) ≡ []
    by None e later = later e
    by (Some signal) e later = absurd cc

-- a run that gives no signal
pub silent_run : (limit : ℕ) (past bytes : List ℕ) (count : ℕ) → count ≤ length bytes →
    signals_after limit past (take count bytes) ≡ [] → SignalsLast limit past bytes count None
silent_run limit past bytes count within silent =
    let run = take count bytes in
    let split : signals_after limit past (take (count - 1) run ++ drop (count - 1) run) ≡ [] =
    rw (take-append-drop (count - 1) run) silent in
    let shorter = take-take (count - 1) count bytes (omega arith) in
    record {
      within = within;
      reports = silent;
      before = rw shorter at (signals-front limit past (take (count - 1) run) (drop (count - 1) run) split);
    }

-- a whole frame
pub whole_frame : (limit : ℕ) (past bytes : List ℕ) (count : ℕ) (frame : FrameContent) → count ≤ length bytes →
    IsFrame limit (take count bytes) frame → signals_after limit past (take count bytes) ≡ Good frame ∷ [] →
    SignalsLast limit past bytes count (Some (Good frame))
whole_frame limit past bytes count frame within is_frame signals =
    let ends = frame_ends limit past (take count bytes) frame is_frame signals in
    let long : length ends.before + 1 ≡ count =
    sym (length-append ends.before (LF ∷ [])) ∙ ap length (sym ends.bytes_are) ∙ length-take-le count bytes within in
    let front : take (count - 1) (take count bytes) ≡ ends.before =
    ap (take (count - 1)) ends.bytes_are ∙ take_at ends.before (LF ∷ []) (count - 1) (omega (long, arith)) in
    let shorter = take-take (count - 1) count bytes (omega arith) in
    record {
      within = within;
      reports = signals;
      before = ap (signals_after limit past) (sym shorter ∙ front) ∙ ends.silent;
    }

-- the signal after bytes that give none
pub following_silent : (limit : ℕ) (past bytes : List ℕ) (count more : ℕ) (signal : Option (SignalOf limit)) →
    count ≤ length bytes → 0 < more → signals_after limit past (take count bytes) ≡ [] →
    SignalsLast limit (stream_with past (take count bytes)) (drop count bytes) more signal →
    SignalsLast limit past bytes (count + more) signal
following_silent limit past bytes count more signal within some silent reported =
    let front = take count bytes in
    let joined : (n : ℕ) → signals_after limit past (take (count + n) bytes)
    ≡ signals_after limit (stream_with past front) (take n (drop count bytes)) =
    λ n. ap (signals_after limit past) (take-add count n bytes)
    ∙ signals_after-append limit front (take n (drop count bytes)) past
    ∙ ap (λ xs. xs ++ signals_after limit (stream_with past front) (take n (drop count bytes))) silent in
    let less : count + more - 1 ≡ count + (more - 1) = omega (some, arith) in
    record {
      within = omega (reported.within, length-drop count bytes, within, arith);
      reports = joined more ∙ reported.reports;
      before = ap (λ n. signals_after limit past (take n bytes)) less ∙ joined (more - 1) ∙ reported.before;
    }

-- the scanner represents all that was read
pub represents_following : (limit : ℕ) (past bytes : List ℕ) (count more : ℕ) (held : Held) →
    StandsFor limit held (stream_with (stream_with past (take count bytes)) (take more (drop count bytes))) →
    StandsFor limit held (stream_with past (take (count + more) bytes))
represents_following limit past bytes count more held represents =
    subst (λ xs. StandsFor limit held xs)
    (sym (stream_with-append (take count bytes) (take more (drop count bytes)) past)
    ∙ ap (stream_with past) (sym (take-add count more bytes)))
    represents
