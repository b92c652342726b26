-- A frame that comes where one is unfinished is heard as one bad frame, and any other as it is.
use Rattle.std.proofs.Common.{◌≡◌, ℕ, ◌+◌, Bool, true, false, List, [], ◌∷◌, ◌++◌, Option, None, Some, refl, ap, sym}
use Rattle.std.proofs.Common.{◌∙◌}
use Rattle.std.proofs.Common.{subst, arith, append_assoc, append-nil, cond, map}
use Rattle.std.specs.Prelude.{nat_le, ◌==◌, ◌||◌, ◌&&◌}
use Rattle.std.specs.List.{position_from}
use Rattle.std.specs.Option.{option_map}
use Rattle.std.proofs.lemmas.Bool.Decides.{nat_tests}
use Rattle.lis_text.specs.Control.{STX, EOT, ENQ, LF, CR}
use Rattle.lis_text.specs.Text.{is_forbidden}
use Rattle.lis_frame.specs.declared.frame.FrameFault.{FrameFault}
use Rattle.lis_frame.specs.declared.scanner.SignalOf.{SignalOf}
use Rattle.lis_frame.specs.declared.scanner.SignalOf.TheVariants.{Bad}
use Rattle.lis_frame.specs.Frame.{FrameContent, IsFrame, number_byte, end_byte, digit_value}
use Rattle.lis_frame.specs.FrameBody.{body_fault, content_of}
use Rattle.lis_frame.specs.Stream.{is_mark, look_back, open_body, read_body, signal_after, signals_after, stream_with}
use Rattle.lis_frame.specs.Stream.{with_signal}
use Rattle.lis_frame.proofs.FrameLaws.{found}
use Rattle.lis_frame.proofs.ScannerLemmas.{look_back-push}
use Rattle.lis_link.specs.Receiver.{ReceiverState, on_byte, with_heard}
use Rattle.lis_careful.specs.Careful.{DLE, ends_session, heard_as, careful_by, on_byte_carefully}
use Rattle.lis_careful.proofs.Receiving.{unspecial_step, on_byte-past, itself, none_ends}
use Rattle.lis_careful.proofs.Receiving.{first_false, second_false}
use Rattle.lis_careful.specs.inside.Hearing.{AreUnspecial, is_special}
use Rattle.lis_careful.specs.World.{gives, careful_signal_by, careful_signal, careful_signals}
use Rattle.lis_careful.specs.World.{with_heard_first}

-- bytes that fail a test, and those of a frame after its STX fail each test that no allowed byte passes
abbrev pub NonePass : (ℕ → Bool) → List ℕ → Type 0
NonePass f [] = Unit {0}
NonePass f (b ∷ bytes) = (f b ≡ false) × NonePass f bytes

pub none_pass-append : (f : ℕ → Bool) (xs ys : List ℕ) → NonePass f xs → NonePass f ys → NonePass f (xs ++ ys)
none_pass-append f [] ys left right = right
none_pass-append f (x ∷ xs) ys left right = (left.0, none_pass-append f xs ys left.1 right)

pub none_pass-text : (f : ℕ → Bool) → ((b : ℕ) → is_forbidden b ≡ false → f b ≡ false) → (i : ℕ) (text : List ℕ)
    → position_from is_forbidden i text ≡ None → NonePass f text
none_pass-text f allowed i [] clean = tt
none_pass-text f allowed i (b ∷ text) clean = by (is_forbidden b) refl clean
    (λ later. none_pass-text f allowed (i + 1) text later)
  where
    by : (test : Bool) → is_forbidden b ≡ test → cond test (Some i) (position_from is_forbidden (i + 1) text) ≡ None
        → (position_from is_forbidden (i + 1) text ≡ None → NonePass f text) → NonePass f (b ∷ text)
    by true e clean later = cc
    by false e clean later = (allowed b e, later clean)

allowed_digit : (b value : ℕ) → digit_value b ≡ Some value → is_forbidden b ≡ false
allowed_digit b value h = by (nat_le 48 b) refl
  where
    by : (test : Bool) → nat_le 48 b ≡ test → is_forbidden b ≡ false
    by true e = grind (arith, nat_tests)
    by false e =
        let upper : nat_le 65 b ≡ false = grind (arith, nat_tests) in
        let lower : nat_le 97 b ≡ false = grind (arith, nat_tests) in
        let none = rw (e, upper, lower) at h in
        cc

-- the bytes of a frame between its STX and its LF
abbrev pub inner_of : FrameContent → ℕ → ℕ → List ℕ
inner_of frame high low = number_byte frame.number ∷ (frame.text ++ (end_byte frame.last ∷ high ∷ low ∷ CR ∷ []))

pub none_pass-frame :
    (f : ℕ → Bool) → ((b : ℕ) → is_forbidden b ≡ false → f b ≡ false) → ((last : Bool) → f (end_byte last) ≡ false)
    → (limit : ℕ) (bytes : List ℕ) (frame : FrameContent) (is_frame : IsFrame limit bytes frame)
    → NonePass f (inner_of frame is_frame.high is_frame.low)
none_pass-frame f allowed end limit bytes frame is_frame = (
  allowed (number_byte frame.number) (grind (arith, nat_tests, is_frame.content.number_in_range)),
  none_pass-append f frame.text _ (none_pass-text f allowed 0 frame.text is_frame.content.is_text.clean) (
    end frame.last,
    (
      allowed is_frame.high (allowed_digit is_frame.high is_frame.digits.high_value is_frame.digits.is_high),
      (
        allowed is_frame.low (allowed_digit is_frame.low is_frame.digits.low_value is_frame.digits.is_low),
        (allowed CR refl, tt),
      ),
    ),
  ),
)

pub encoding_of : (limit : ℕ) (bytes : List ℕ) (frame : FrameContent) (is_frame : IsFrame limit bytes frame)
    → bytes ≡ STX ∷ (inner_of frame is_frame.high is_frame.low ++ LF ∷ [])
encoding_of limit bytes frame is_frame =
    is_frame.encoding
    ∙ ap (λ (xs : List ℕ). STX ∷ number_byte frame.number ∷ xs)
    (sym (append_assoc frame.text (end_byte frame.last ∷ is_frame.high ∷ is_frame.low ∷ CR ∷ []) (LF ∷ [])))

-- no byte of these is a mark; none is special; none is DLE
pub no_mark : (b : ℕ) → is_forbidden b ≡ false → is_mark b ≡ false
no_mark b h = grind (arith, nat_tests)

pub end_no_mark : (last : Bool) → is_mark (end_byte last) ≡ false
end_no_mark true = refl
end_no_mark false = refl

pub unspecial : (b : ℕ) → is_forbidden b ≡ false → is_special b ≡ false
unspecial b h = grind (arith, nat_tests)

pub end_unspecial : (last : Bool) → is_special (end_byte last) ≡ false
end_unspecial true = refl
end_unspecial false = refl

abbrev is_dle : ℕ → Bool
is_dle b = b == DLE

no_dle : (b : ℕ) → is_forbidden b ≡ false → is_dle b ≡ false
no_dle b h = grind (arith, nat_tests)

end_no_dle : (last : Bool) → is_dle (end_byte last) ≡ false
end_no_dle true = refl
end_no_dle false = refl

pub are_unspecial : (bytes : List ℕ) → NonePass is_special bytes → AreUnspecial bytes
are_unspecial [] h = tt
are_unspecial (b ∷ bytes) h = (h.0, are_unspecial bytes h.1)

pub unspecial_after_start : (limit : ℕ) (bytes : List ℕ) (frame : FrameContent) (is_frame : IsFrame limit bytes frame)
    → AreUnspecial (inner_of frame is_frame.high is_frame.low ++ LF ∷ [])
unspecial_after_start limit bytes frame is_frame =
    are_unspecial (inner_of frame is_frame.high is_frame.low ++ LF ∷ [])
    (none_pass-append is_special (inner_of frame is_frame.high is_frame.low) (LF ∷ [])
    (none_pass-frame is_special unspecial end_unspecial limit bytes frame is_frame) (refl, tt))

pub unmarked_inner : (limit : ℕ) (bytes : List ℕ) (frame : FrameContent) (is_frame : IsFrame limit bytes frame)
    → NonePass is_mark (inner_of frame is_frame.high is_frame.low)
unmarked_inner limit bytes frame is_frame = none_pass-frame is_mark no_mark end_no_mark limit bytes frame is_frame

-- ---- bytes without a mark, and then an LF

pub inner_silent : (limit : ℕ) (past : List ℕ) (b : ℕ) → is_mark b ≡ false → signal_after limit past b ≡ None
unfolding signal_after
inner_silent limit past b inner = grind (arith, nat_tests)

pub signals-inner : (limit : ℕ) (past xs ys : List ℕ) → NonePass is_mark xs
    → signals_after limit past (xs ++ ys) ≡ signals_after limit (stream_with past xs) ys
signals-inner limit past [] ys inner = refl
signals-inner limit past (x ∷ xs) ys inner =
    rw (inner_silent limit past x inner.0) (signals-inner limit (x ∷ past) xs ys inner.1)

-- a byte that is no mark goes on with what is open
pub open-next : (past : List ℕ) (b : ℕ) → is_mark b ≡ false
    → open_body (b ∷ past) ≡ option_map (λ (s : List ℕ). s ++ b ∷ []) (open_body past)
unfolding open_body
open-next past b inner =
    let goes : look_back (b ∷ past) [] ≡ look_back past (b ∷ []) = grind (arith, nat_tests) in
    goes ∙ look_back-push past [] b

pub open-inner : (past xs body : List ℕ) → NonePass is_mark xs → open_body past ≡ Some body
    → open_body (stream_with past xs) ≡ Some (body ++ xs)
open-inner past [] body inner is = is ∙ ap Some (sym (append-nil body))
open-inner past (x ∷ xs) body inner is =
    let next : open_body (x ∷ past) ≡ Some (body ++ x ∷ []) =
    open-next past x inner.0 ∙ ap (option_map (λ (s : List ℕ). s ++ x ∷ [])) is in
    open-inner (x ∷ past) xs (body ++ x ∷ []) inner.1 next ∙ ap Some (append_assoc body (x ∷ []) xs)

-- so the body that LF ends is read
pub signals-ended : (limit : ℕ) (past xs body : List ℕ) → NonePass is_mark xs → open_body past ≡ Some body
    → signals_after limit past (xs ++ LF ∷ []) ≡ read_body limit (body ++ xs) ∷ []
unfolding signal_after
signals-ended limit past xs body inner is =
    signals-inner limit past xs (LF ∷ []) inner ∙ rw (open-inner past xs body inner is) refl

-- a body with a DLE in it is no frame
lists_dle : (xs ys : List ℕ) → NonePass is_dle (xs ++ DLE ∷ ys) → ⊥
lists_dle [] ys h = cc
lists_dle (x ∷ xs) ys h = lists_dle xs ys h.1

pub inner_same : (s inner : List ℕ) → STX ∷ (s ++ LF ∷ []) ≡ STX ∷ (inner ++ LF ∷ []) → s ≡ inner
inner_same s inner e = cancel s inner cc
  where
    cancel : (xs ys : List ℕ) → xs ++ LF ∷ [] ≡ ys ++ LF ∷ [] → xs ≡ ys
    cancel [] [] e = refl
    cancel [] (y ∷ []) e = cc
    cancel [] (y ∷ z ∷ ys) e = cc
    cancel (x ∷ []) [] e = cc
    cancel (x ∷ z ∷ xs) [] e = cc
    cancel (x ∷ xs) (y ∷ ys) e =
        let tails : xs ++ LF ∷ [] ≡ ys ++ LF ∷ [] = cc in
        let heads : x ≡ y = cc in
        let rest = cancel xs ys tails in
        cc

pub has_fault : (limit : ℕ) (xs ys : List ℕ) → (fault : FrameFault)
    × (body_fault limit (xs ++ DLE ∷ ys) ≡ Some fault)
has_fault limit xs ys = by (body_fault limit (xs ++ DLE ∷ ys)) refl
  where
    by : (found_fault : Option FrameFault) → body_fault limit (xs ++ DLE ∷ ys) ≡ found_fault
        → (fault : FrameFault) × (found_fault ≡ Some fault)
    by (Some fault) e = (fault, refl)
    by None e =
        let s : List ℕ = xs ++ DLE ∷ ys in
        let is_frame = found limit s e in
        let same : s ≡ inner_of (content_of s) is_frame.high is_frame.low =
        inner_same s _ (encoding_of limit (STX ∷ (s ++ LF ∷ [])) (content_of s) is_frame) in
        let none = none_pass-frame is_dle no_dle end_no_dle limit (STX ∷ (s ++ LF ∷ [])) (content_of s) is_frame in
        absurd (lists_dle xs ys (subst (NonePass is_dle) (sym same) none))

-- ---- what a careful receiver hears

-- of bytes that are not special, what the profile's does
pub signals-unspecial : (limit : ℕ) (bytes : List ℕ) (r : ReceiverState) → AreUnspecial bytes
    → careful_signals limit bytes r ≡ map gives (signals_after limit r.past bytes)
signals-unspecial limit [] r plain = refl
signals-unspecial limit (b ∷ bytes) r plain =
    let goes : ends_session r b ≡ false =
    ap (λ t. r.is_open && t) (second_false (b == STX) (b == ENQ || b == EOT) plain.0) ∙ none_ends r.is_open in
    let same : heard_as (open_body r.past) b ≡ b =
    itself (open_body r.past) b (first_false (b == STX) (b == ENQ || b == EOT) plain.0) in
    let first : careful_signal limit r b ≡ option_map gives (signal_after limit r.past b) =
    ap (λ t. careful_signal_by t (signal_after limit r.past (heard_as (open_body r.past) b))) goes
    ∙ ap (λ c. option_map gives (signal_after limit r.past c)) same in
    let after : (on_byte_carefully limit b r).after ≡ (on_byte limit b r).after =
    ap (λ s. s.after) (unspecial_step limit b r plain.0) in
    let later : careful_signals limit bytes (on_byte_carefully limit b r).after
    ≡ map gives (signals_after limit (b ∷ r.past) bytes) =
    ap (careful_signals limit bytes) after
    ∙ signals-unspecial limit bytes (on_byte limit b r).after plain.1
    ∙ ap (λ p. map gives (signals_after limit p bytes)) (on_byte-past limit b r) in
    by first later
  where
    joined : (signal : Option (SignalOf limit)) (rest : List (SignalOf limit))
        → with_heard_first (option_map gives signal) (map gives rest) ≡ map gives (with_signal signal rest)
    joined None rest = refl
    joined (Some signal) rest = refl

    by : careful_signal limit r b ≡ option_map gives (signal_after limit r.past b)
        → careful_signals limit bytes (on_byte_carefully limit b r).after
        ≡ map gives (signals_after limit (b ∷ r.past) bytes)
        → with_heard_first (careful_signal limit r b) (careful_signals limit bytes (on_byte_carefully limit b r).after)
        ≡ map gives (with_signal (signal_after limit r.past b) (signals_after limit (b ∷ r.past) bytes))
    by first later =
        ap (λ o. with_heard_first o (careful_signals limit bytes (on_byte_carefully limit b r).after)) first
        ∙ ap (with_heard_first (option_map gives (signal_after limit r.past b))) later
        ∙ joined (signal_after limit r.past b) (signals_after limit (b ∷ r.past) bytes)

-- of an STX within a frame, nothing: it is DLE
pub start_within : (limit : ℕ) (bytes body : List ℕ) (r : ReceiverState) → open_body r.past ≡ Some body
    → careful_signals limit (STX ∷ bytes) r ≡ careful_signals limit bytes (with_heard (DLE ∷ []) r)
unfolding signal_after
start_within limit bytes body r is =
    let goes : ends_session r STX ≡ false = none_ends r.is_open in
    let first : careful_signal limit r STX ≡ None =
    ap (λ t. careful_signal_by t (signal_after limit r.past (heard_as (open_body r.past) STX))) goes
    ∙ ap (λ o. option_map gives (signal_after limit r.past (heard_as o STX))) is in
    let after : (on_byte_carefully limit STX r).after ≡ with_heard (DLE ∷ []) r =
    ap (λ t. (careful_by t limit STX r).after) goes
    ∙ ap (λ o. (on_byte limit (heard_as o STX) r).after) is in
    ap (λ o. with_heard_first o (careful_signals limit bytes (on_byte_carefully limit STX r).after)) first
    ∙ ap (careful_signals limit bytes) after

-- a frame that comes where one is unfinished is one bad frame
pub frame_within : (limit : ℕ) (bytes body : List ℕ) (frame : FrameContent) (r : ReceiverState)
    → IsFrame limit bytes frame → open_body r.past ≡ Some body
    → (fault : FrameFault) × (careful_signals limit bytes r ≡ gives (Bad fault) ∷ [])
frame_within limit bytes body frame r is_frame is =
    let inner : List ℕ = inner_of frame is_frame.high is_frame.low in
    let next : ReceiverState = with_heard (DLE ∷ []) r in
    let opened : open_body (DLE ∷ r.past) ≡ Some (body ++ DLE ∷ []) =
    open-next r.past DLE refl ∙ ap (option_map (λ (s : List ℕ). s ++ DLE ∷ [])) is in
    let whole : (body ++ DLE ∷ []) ++ inner ≡ body ++ DLE ∷ inner = append_assoc body (DLE ∷ []) inner in
    let bad = has_fault limit body inner in (
      bad.0,
      ap (λ xs. careful_signals limit xs r) (encoding_of limit bytes frame is_frame)
          ∙ start_within limit (inner ++ LF ∷ []) body r is
          ∙ signals-unspecial limit (inner ++ LF ∷ []) next (unspecial_after_start limit bytes frame is_frame)
          ∙ ap (map gives) (signals-ended limit (DLE ∷ r.past) inner (body ++ DLE ∷ [])
          (unmarked_inner limit bytes frame is_frame) opened)
          ∙ ap (λ s. gives (read_body limit s) ∷ []) whole
          ∙ rw bad.1 refl,
    )
