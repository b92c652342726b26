-- The signals of a stream: they don't depend on its split, and the bytes of a frame are heard as that frame.
use Rattle.std.proofs.Common.{suc, take, ◌≡◌, ℕ, ◌+◌, ◌/◌, ◌%◌, ◌<◌, Bool, true, false, List, [], ◌∷◌, ◌++◌, Option}
use Rattle.std.proofs.Common.{None, Some, refl, ap, sym, ◌∙◌, subst, arith, cond, append-nil, append_assoc}
use Rattle.std.specs.Prelude.{not, nat_le, ◌==◌, ◌||◌}
use Rattle.std.specs.List.{position_from}
use Rattle.std.proofs.lemmas.Bool.Decides.{nat_tests}
use Rattle.lis_text.specs.Control.{STX, EOT, ENQ, CR, LF}
use Rattle.lis_frame.specs.declared.scanner.SignalOf.{SignalOf}
use Rattle.lis_frame.specs.declared.scanner.SignalOf.TheVariants.{Good}
use Rattle.lis_text.specs.Text.{is_forbidden, first_forbidden}
use Rattle.lis_frame.specs.Scanner.{Held, outside, quiet_length, unmarked_length, StandsFor}
use Rattle.lis_frame.specs.inside.Scanner.{held_after, with_byte, with_bytes}
use Rattle.lis_frame.specs.Frame.{FrameContent, IsContent, IsFrame, number_byte, end_byte, checksum, digit_value}
use Rattle.lis_frame.specs.Frame.{upper_digit, frame_bytes}
use Rattle.lis_frame.specs.inside.FrameBody.{body_of}
use Rattle.lis_frame.specs.Stream.{is_mark, look_back, open_body, read_body, signal_after, with_signal}
use Rattle.lis_frame.specs.Stream.{signals_after, stream_with}
use Rattle.lis_frame.proofs.FrameLaws.{only, IsFrame-frame_bytes}
use Rattle.lis_frame.proofs.ScannerLemmas.{look_back-push, represents_after}

-- a stream read in two parts gives the signals of the first part and then those of the second
pub signals_after-append :
    (limit : ℕ) (xs ys past : List ℕ) →
    signals_after limit past (xs ++ ys) ≡ signals_after limit past xs ++ signals_after limit (stream_with past xs) ys
signals_after-append limit [] ys past = refl
signals_after-append limit (b ∷ xs) ys past = by (signal_after limit past b)
    (signals_after-append limit xs ys (b ∷ past))
  where
    by :
        (signal : Option (SignalOf limit)) →
        signals_after limit (b ∷ past) (xs ++ ys) ≡ signals_after limit (b ∷ past) xs
        ++ signals_after limit (stream_with (b ∷ past) xs) ys →
        with_signal signal (signals_after limit (b ∷ past) (xs ++ ys))
        ≡ with_signal signal (signals_after limit (b ∷ past) xs) ++ signals_after limit (stream_with (b ∷ past) xs) ys
    by None later = later
    by (Some signal) later = ap (λ rest. signal ∷ rest) later

pub stream_with-append : (xs ys past : List ℕ) → stream_with past (xs ++ ys) ≡ stream_with (stream_with past xs) ys
stream_with-append [] ys past = refl
stream_with-append (x ∷ xs) ys past = stream_with-append xs ys (x ∷ past)

-- a byte that is none of STX, EOT, ENQ and LF
record IsPlain (b : ℕ) : Type 0 where
  no_start : (b == STX) ≡ false
  no_stop : (b == EOT || b == ENQ || b == LF) ≡ false
  no_enquiry : (b == ENQ) ≡ false
  no_ending : (b == EOT) ≡ false
  no_line_feed : (b == LF) ≡ false

AllPlain : List ℕ → Type 0
AllPlain [] = Unit {0}
AllPlain (b ∷ bytes) = IsPlain b × AllPlain bytes

-- plain bytes give no signal
signals-plain : (limit : ℕ) (bytes past : List ℕ) → AllPlain bytes → signals_after limit past bytes ≡ []
unfolding AllPlain signal_after
signals-plain limit [] past plain = refl
signals-plain limit (b ∷ bytes) past plain =
    rw (plain.0.no_enquiry, plain.0.no_ending, plain.0.no_line_feed) (signals-plain limit bytes (b ∷ past) plain.1)

-- and go on with an open frame body
open-plain : (bytes past s : List ℕ) → AllPlain bytes → look_back past [] ≡ Some s
    → look_back (stream_with past bytes) [] ≡ Some (s ++ bytes)
unfolding AllPlain
open-plain [] past s plain e = rw (append-nil s) e
open-plain (b ∷ bytes) past s plain e =
    let one : look_back (b ∷ past) [] ≡ Some (s ++ b ∷ []) =
    rw (plain.0.no_start, plain.0.no_stop, look_back-push past [] b, e) refl in
    rw (append_assoc s (b ∷ []) bytes) at (open-plain bytes (b ∷ past) (s ++ b ∷ []) plain.1 one)

-- plain bytes between STX and LF are heard as the frame body that they are
signals-body :
    (limit : ℕ) (past s : List ℕ) → AllPlain s → signals_after limit past (STX ∷ (s ++ LF ∷ []))
    ≡ read_body limit s ∷ []
unfolding signal_after open_body
signals-body limit past s plain =
    let opened : look_back (stream_with (STX ∷ past) s) [] ≡ Some s = open-plain s (STX ∷ past) [] plain refl in
    signals_after-append limit s (LF ∷ []) (STX ∷ past)
    ∙ rw (signals-plain limit s (STX ∷ past) plain, opened) refl

plain_if_allowed : (b : ℕ) → is_forbidden b ≡ false → IsPlain b
plain_if_allowed b h =
    record {
      no_start = grind (arith, nat_tests);
      no_stop = grind (arith, nat_tests);
      no_enquiry = grind (arith, nat_tests);
      no_ending = grind (arith, nat_tests);
      no_line_feed = grind (arith, nat_tests);
    }

AllPlain-text : (i : ℕ) (text rest : List ℕ) → position_from is_forbidden i text ≡ None → AllPlain rest
    → AllPlain (text ++ rest)
unfolding AllPlain
AllPlain-text i [] rest clean plain = plain
AllPlain-text i (b ∷ text) rest clean plain = by (is_forbidden b) refl clean
    (λ later. AllPlain-text (i + 1) text rest later plain)
  where
    by :
        (test : Bool) → is_forbidden b ≡ test → cond test (Some i) (position_from is_forbidden (i + 1) text) ≡ None →
        (position_from is_forbidden (i + 1) text ≡ None → AllPlain (text ++ rest)) → AllPlain (b ∷ (text ++ rest))
    by true e clean later = cc
    by false e clean later = (plain_if_allowed b e, later clean)

allowed_digit : (n : ℕ) → n < 16 → is_forbidden (upper_digit n) ≡ false
allowed_digit n h = grind (arith, nat_tests)

plain_end : (last : Bool) → IsPlain (end_byte last)
plain_end true = record { no_start = refl; no_stop = refl; no_enquiry = refl; no_ending = refl; no_line_feed = refl }
plain_end false = record { no_start = refl; no_stop = refl; no_enquiry = refl; no_ending = refl; no_line_feed = refl }

-- the bytes of a frame between its STX and its LF
inside_of : FrameContent → List ℕ
inside_of frame =
    body_of (number_byte frame.number) frame.text (end_byte frame.last) (upper_digit (checksum frame / 16))
    (upper_digit (checksum frame % 16)) CR

frame_bytes-inside : (frame : FrameContent) → frame_bytes frame ≡ STX ∷ (inside_of frame ++ LF ∷ [])
unfolding frame_bytes inside_of
frame_bytes-inside frame =
    ap (λ (xs : List ℕ). STX ∷ number_byte frame.number ∷ xs)
    (sym (append_assoc frame.text (end_byte frame.last ∷ upper_digit (checksum frame / 16)
    ∷ upper_digit (checksum frame % 16) ∷ CR ∷ []) (LF ∷ [])))

AllPlain-inside_of : (limit : ℕ) (frame : FrameContent) → IsContent limit frame → AllPlain (inside_of frame)
unfolding AllPlain inside_of
AllPlain-inside_of limit frame content = (
  plain_if_allowed (number_byte frame.number) (grind (arith, nat_tests, content.number_in_range)),
  AllPlain-text 0 frame.text _ content.is_text.clean (
    plain_end frame.last,
    (
      plain_if_allowed _ (allowed_digit (checksum frame / 16) (omega arith)),
      (plain_if_allowed _ (allowed_digit (checksum frame % 16) (omega arith)), (plain_if_allowed CR refl, tt)),
    ),
  ),
)

-- the bytes of a frame are heard as that frame, whatever came before them
pub signals-frame_bytes :
    (limit : ℕ) (past : List ℕ) (frame : FrameContent) → IsContent limit frame
    → signals_after limit past (frame_bytes frame) ≡ Good frame ∷ []
signals-frame_bytes limit past frame content =
    let is_frame : IsFrame limit (STX ∷ (inside_of frame ++ LF ∷ [])) frame =
    subst (λ (bytes : List ℕ). IsFrame limit bytes frame) (frame_bytes-inside frame)
    (IsFrame-frame_bytes limit frame content) in
    let read = only limit (inside_of frame) frame is_frame in
    rw (
      frame_bytes-inside frame,
      signals-body limit past (inside_of frame)
          (AllPlain-inside_of limit frame content),
      read.0,
    ) (ap (λ f. Good f ∷ []) (sym read.1))

plain_unless_mark : (b : ℕ) → is_mark b ≡ false → IsPlain b
plain_unless_mark b h =
    record {
      no_start = grind (arith, nat_tests);
      no_stop = grind (arith, nat_tests);
      no_enquiry = grind (arith, nat_tests);
      no_ending = grind (arith, nat_tests);
      no_line_feed = grind (arith, nat_tests);
    }

-- the bytes before the next mark are plain
abbrev pub unmarked : List ℕ → List ℕ
unmarked bytes = take (unmarked_length bytes) bytes

AllPlain-unmarked : (bytes : List ℕ) → AllPlain (unmarked bytes)
unfolding AllPlain
AllPlain-unmarked [] = tt
AllPlain-unmarked (b ∷ bytes) = by (is_mark b) refl (AllPlain-unmarked bytes)
  where
    by : (mark : Bool) → is_mark b ≡ mark → AllPlain (unmarked bytes)
        → AllPlain (take (cond (not mark) (1 + unmarked_length bytes) 0) (b ∷ bytes))
    by true e later = tt
    by false e later =
        let longer : 1 + unmarked_length bytes ≡ suc (unmarked_length bytes) = omega arith in
        rw longer (plain_unless_mark b e, later)

represents-plain :
    (limit : ℕ) (held : Held) (run past : List ℕ) → AllPlain run → StandsFor limit held past →
    StandsFor limit (with_bytes limit held run) (stream_with past run)
unfolding AllPlain
represents-plain limit held [] past plain represents = represents
represents-plain limit held (b ∷ run) past plain represents =
    let one : StandsFor limit (with_byte limit held b) (b ∷ past) =
    rw (plain.0.no_start, plain.0.no_stop) at (represents_after limit held past b represents) in
    represents-plain limit (with_byte limit held b) run (b ∷ past) plain.1 one

-- bytes up to the next mark give no signal, and are held as they are
pub unmarked_run :
    (limit : ℕ) (held : Held) (bytes past : List ℕ) → StandsFor limit held past →
    (signals_after limit past (unmarked bytes) ≡ [])
    × StandsFor limit (with_bytes limit held (unmarked bytes)) (stream_with past (unmarked bytes))
unmarked_run limit held bytes past represents =
    let plain = AllPlain-unmarked bytes in (
      signals-plain limit (unmarked bytes) past plain,
      represents-plain limit held (unmarked bytes) past plain
          represents,
    )

-- the same of bytes that a text may hold
pub clean_run :
    (limit : ℕ) (held : Held) (run past : List ℕ) → StandsFor limit held past → first_forbidden run ≡ None →
    (signals_after limit past run ≡ []) × StandsFor limit (with_bytes limit held run) (stream_with past run)
unfolding AllPlain
clean_run limit held run past represents clean =
    let plain : AllPlain run = rw (append-nil run) at (AllPlain-text 0 run [] clean tt) in
    (signals-plain limit run past plain, represents-plain limit held run past plain represents)

-- bytes after an STX, which begins a frame body
pub started_run :
    (limit : ℕ) (held : Held) (following past : List ℕ) → StandsFor limit held past →
    (signals_after limit past (STX ∷ unmarked following) ≡ [])
    × StandsFor limit (with_bytes limit (held_after limit held STX) (unmarked following))
    (stream_with past (STX ∷ unmarked following))
unfolding signal_after
started_run limit held following past represents = unmarked_run limit (held_after limit held STX) following (STX ∷ past)
    (represents_after limit held past STX represents)

pub quiet_length-start : (following : List ℕ) (n : ℕ) → n ≡ unmarked_length following → n + 1
    ≡ quiet_length (STX ∷ following)
quiet_length-start following n e = rw e refl

pub quiet_length-other : (b : ℕ) (following : List ℕ) → (b == STX) ≡ false
    → unmarked_length (b ∷ following) ≡ quiet_length (b ∷ following)
quiet_length-other b following other = rw other refl

allowed_hex : (b value : ℕ) → digit_value b ≡ Some value → is_forbidden b ≡ false
allowed_hex b value h = by (nat_le 48 b) refl
  where
    by : (test : Bool) → nat_le 48 b ≡ test → is_forbidden b ≡ false
    by true e = grind (arith, nat_tests)
    by false e =
        let upper : nat_le 65 b ≡ false = grind (arith, nat_tests) in
        let lower : nat_le 97 b ≡ false = grind (arith, nat_tests) in
        let none = rw (e, upper, lower) at h in
        cc

pub stream_with-last : (past xs : List ℕ) (b : ℕ) → stream_with past (xs ++ b ∷ []) ≡ b ∷ stream_with past xs
stream_with-last past [] b = refl
stream_with-last past (x ∷ xs) b = stream_with-last (x ∷ past) xs b

-- the bytes of a frame, with digits in either case, are heard as it, and leave no frame body open
pub heard_frame :
    (limit : ℕ) (past bytes : List ℕ) (frame : FrameContent) → IsFrame limit bytes frame →
    (signals_after limit past bytes ≡ Good frame ∷ []) × StandsFor limit outside (stream_with past bytes)
unfolding AllPlain StandsFor open_body
heard_frame limit past bytes frame is_frame =
    let s = body_of (number_byte frame.number) frame.text (end_byte frame.last) is_frame.high is_frame.low CR in
    let bytes_are : bytes ≡ STX ∷ (s ++ LF ∷ []) =
    is_frame.encoding
    ∙ ap (λ (xs : List ℕ). STX ∷ number_byte frame.number ∷ xs)
    (sym (append_assoc frame.text (end_byte frame.last ∷ is_frame.high ∷ is_frame.low ∷ CR ∷ []) (LF ∷ []))) in
    let same : IsFrame limit (STX ∷ (s ++ LF ∷ [])) frame =
    subst (λ (xs : List ℕ). IsFrame limit xs frame) bytes_are is_frame in
    let read = only limit s frame same in
    let plain : AllPlain s = (
      plain_if_allowed (number_byte frame.number) (grind (arith, nat_tests, is_frame.content.number_in_range)),
      AllPlain-text 0 frame.text _ is_frame.content.is_text.clean (
        plain_end frame.last,
        (
          plain_if_allowed _ (allowed_hex is_frame.high is_frame.digits.high_value is_frame.digits.is_high),
          (
            plain_if_allowed _ (allowed_hex is_frame.low is_frame.digits.low_value is_frame.digits.is_low),
            (plain_if_allowed CR refl, tt),
          ),
        ),
      ),
    ) in (
      rw (bytes_are, signals-body limit past s plain, read.0) (ap (λ f. Good f ∷ []) (sym read.1)),
      rw (bytes_are, stream_with-last (STX ∷ past) s LF) refl,
    )
