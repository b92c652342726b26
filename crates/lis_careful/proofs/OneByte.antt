-- Why one damaged byte of a frame is noticed.
use Rattle.std.proofs.Common.{◌≡◌, ◌≢◌, ℕ, ◌+◌, ◌%◌, ◌≤◌, Bool, true, false, List}
use Rattle.std.proofs.Common.{◌⊎◌, inl, inr, [], ◌∷◌, ◌++◌, Option, None, Some, refl, ap, sym, ◌∙◌, subst}
use Rattle.std.proofs.Common.{arith, append_assoc}
use Rattle.std.proofs.Common.{append-nil, map}
use Rattle.std.specs.Prelude.{◌==◌, ◌||◌, ◌&&◌}
use Rattle.std.specs.List.{sum}
use Rattle.std.specs.Option.{option_map}
use Rattle.std.proofs.lemmas.Bool.Decides.{nat_tests}
use Rattle.std.proofs.lemmas.List.Sums.{sum_by-cons, sum_by-append}
use Rattle.lis_text.specs.Control.{STX, ETX, ETB, EOT, ENQ, LF, CR}
use Rattle.lis_text.specs.Text.{is_forbidden}
use Rattle.lis_frame.specs.declared.frame.FrameFault.{FrameFault}
use Rattle.lis_frame.specs.declared.scanner.SignalOf.TheVariants.{Good, Bad}
use Rattle.lis_frame.specs.Frame.{FrameContent, IsContent, IsFrame, IsDigits, number_byte, end_byte, checksum}
use Rattle.lis_frame.specs.Frame.{digit_value}
use Rattle.lis_frame.specs.FrameBody.{body_fault, content_of}
use Rattle.lis_frame.specs.Stream.{is_mark, open_body, read_body, signal_of_fault, signal_after, signals_after}
use Rattle.lis_frame.specs.Stream.{ended_body, stream_with, with_signal}
use Rattle.lis_frame.proofs.FrameLaws.{found}
use Rattle.lis_link.specs.Receiver.{ReceiverState, heard, on_byte, with_heard}
use Rattle.lis_careful.specs.Careful.{DLE, ends_session, heard_as, careful_by}
use Rattle.lis_careful.specs.World.{CarefulSignal, ends, gives, careful_signal_by, careful_signals}
use Rattle.lis_careful.specs.World.{with_heard_first}
use Rattle.lis_careful.specs.OneByte.{IsHeardAs, nothing, session_end, bad_frame, itself, OneByteIsNoticed}
use Rattle.lis_careful.specs.inside.Hearing.{is_special}
use Rattle.lis_careful.proofs.Receiving.{none_ends, first_false, second_false}
use Rattle.lis_careful.proofs.Heard.{closed}
use Rattle.lis_careful.proofs.Frames.{NonePass, none_pass-append, none_pass-frame, none_pass-text, inner_silent}
use Rattle.lis_careful.proofs.Frames.{inner_of, encoding_of, open-next}
use Rattle.lis_careful.proofs.Frames.{open-inner, signals-inner, signals-ended, signals-unspecial, has_fault}
use Rattle.lis_careful.proofs.Frames.{inner_same}
use Rattle.lis_careful.proofs.Frames.{are_unspecial, no_mark, end_no_mark, unspecial, end_unspecial, start_within}

-- ---- what the two lists of bytes have in common

-- the bytes that the checksum covers
covered_of : FrameContent → List ℕ
covered_of frame = number_byte frame.number ∷ (frame.text ++ end_byte frame.last ∷ [])

inner_parts : (frame : FrameContent) (high low : ℕ)
    → inner_of frame high low ≡ covered_of frame ++ (high ∷ low ∷ CR ∷ [])
unfolding covered_of
inner_parts frame high low =
    ap (λ (xs : List ℕ). number_byte frame.number ∷ xs)
    (sym (append_assoc frame.text (end_byte frame.last ∷ []) (high ∷ low ∷ CR ∷ [])))

not_longer : (xs : List ℕ) (a : ℕ) → [] ≡ xs ++ a ∷ [] → ⊥
not_longer [] a e = cc
not_longer (x ∷ xs) a e = cc

pub cancel_last : (xs ys : List ℕ) (a b : ℕ) → xs ++ a ∷ [] ≡ ys ++ b ∷ [] → (xs ≡ ys) × (a ≡ b)
cancel_last [] [] a b e = (refl, cc)
cancel_last [] (y ∷ ys) a b e = absurd (not_longer ys b cc)
cancel_last (x ∷ xs) [] a b e =
    let tails : xs ++ a ∷ [] ≡ [] = cc in
    absurd (not_longer xs a (sym tails))
cancel_last (x ∷ xs) (y ∷ ys) a b e =
    let tails : xs ++ a ∷ [] ≡ ys ++ b ∷ [] = cc in
    let heads : x ≡ y = cc in
    let rest = cancel_last xs ys a b tails in
    let same = rest.0 in
    (cc, rest.1)

-- three bytes at the end, and where a byte is
last_is : (xs f : List ℕ) (a b c w : ℕ) → xs ++ (a ∷ b ∷ c ∷ []) ≡ f ++ w ∷ [] → w ≡ c
last_is xs f a b c w e =
    let whole : xs ++ (a ∷ b ∷ c ∷ []) ≡ (xs ++ (a ∷ b ∷ [])) ++ c ∷ [] = sym (append_assoc xs (a ∷ b ∷ []) (c ∷ [])) in
    sym (cancel_last (xs ++ (a ∷ b ∷ [])) f c w (sym whole ∙ e)).1

second_last : (xs f : List ℕ) (a b c w x : ℕ) → xs ++ (a ∷ b ∷ c ∷ []) ≡ f ++ (w ∷ x ∷ []) → xs ++ a ∷ [] ≡ f
second_last xs f a b c w x e =
    let left : xs ++ (a ∷ b ∷ c ∷ []) ≡ (xs ++ (a ∷ b ∷ [])) ++ c ∷ [] = sym (append_assoc xs (a ∷ b ∷ []) (c ∷ [])) in
    let right : f ++ (w ∷ x ∷ []) ≡ (f ++ w ∷ []) ++ x ∷ [] = sym (append_assoc f (w ∷ []) (x ∷ [])) in
    let one = (cancel_last (xs ++ (a ∷ b ∷ [])) (f ++ w ∷ []) c x (sym left ∙ e ∙ right)).0 in
    let again : xs ++ (a ∷ b ∷ []) ≡ (xs ++ a ∷ []) ++ b ∷ [] = sym (append_assoc xs (a ∷ []) (b ∷ [])) in
    (cancel_last (xs ++ a ∷ []) f b w (sym again ∙ one)).0

third_last : (xs f : List ℕ) (a b c w x y : ℕ) → xs ++ (a ∷ b ∷ c ∷ []) ≡ f ++ (w ∷ x ∷ y ∷ []) → xs ≡ f
third_last xs f a b c w x y e =
    let right : f ++ (w ∷ x ∷ y ∷ []) ≡ (f ++ w ∷ []) ++ (x ∷ y ∷ []) = sym (append_assoc f (w ∷ []) (x ∷ y ∷ [])) in
    let one = second_last xs (f ++ w ∷ []) a b c x y (e ∙ right) in
    (cancel_last xs f a w one).0

-- or it is before them
record IsCovered (xs f : List ℕ) (a b c w : ℕ) (following : List ℕ) : Type 0 where
  middle : List ℕ
  covered_is : xs ≡ f ++ w ∷ middle
  following_is : following ≡ middle ++ (a ∷ b ∷ c ∷ [])

too_short : (f : List ℕ) (a b c w x y z : ℕ) (more : List ℕ)
    → a ∷ b ∷ c ∷ [] ≡ f ++ w ∷ (x ∷ y ∷ z ∷ more) → ⊥
too_short [] a b c w x y z more e = cc
too_short (p ∷ []) a b c w x y z more e = cc
too_short (p ∷ q ∷ []) a b c w x y z more e = cc
too_short (p ∷ q ∷ r ∷ []) a b c w x y z more e = cc
too_short (p ∷ q ∷ r ∷ s ∷ f) a b c w x y z more e = cc

covered : (xs f : List ℕ) (a b c w x y z : ℕ) (more : List ℕ)
    → xs ++ (a ∷ b ∷ c ∷ []) ≡ f ++ w ∷ (x ∷ y ∷ z ∷ more) → IsCovered xs f a b c w (x ∷ y ∷ z ∷ more)
covered [] f a b c w x y z more e = absurd (too_short f a b c w x y z more e)
covered (p ∷ xs) [] a b c w x y z more e =
    let heads : p ≡ w = cc in
    let tails : x ∷ y ∷ z ∷ more ≡ xs ++ (a ∷ b ∷ c ∷ []) = cc in
    record { middle = xs; covered_is = ap (λ (k : ℕ). k ∷ xs) heads; following_is = tails }
covered (p ∷ xs) (q ∷ f) a b c w x y z more e =
    let heads : p ≡ q = cc in
    let tails : xs ++ (a ∷ b ∷ c ∷ []) ≡ f ++ w ∷ (x ∷ y ∷ z ∷ more) = cc in
    let rest = covered xs f a b c w x y z more tails in
    let same = rest.covered_is in
    record { middle = rest.middle; covered_is = cc; following_is = rest.following_is }

-- what is covered says which frame it is
same_last : (one two : Bool) → end_byte one ≡ end_byte two → one ≡ two
same_last true true e = refl
same_last false false e = refl
same_last true false e = absurd (omega arith)
same_last false true e = absurd (omega arith)

same_frame : (one two : FrameContent) → covered_of one ≡ covered_of two → one ≡ two
unfolding covered_of
same_frame one two e =
    let numbers : number_byte one.number ≡ number_byte two.number = cc in
    let number : one.number ≡ two.number = omega arith in
    let tails : one.text ++ end_byte one.last ∷ [] ≡ two.text ++ end_byte two.last ∷ [] = cc in
    let parts = cancel_last one.text two.text (end_byte one.last) (end_byte two.last) tails in
    let text = parts.0 in
    let last = same_last one.last two.last parts.1 in
    ap (λ n. record { number = n; last = one.last; text = one.text }) number
    ∙ ap (λ l. record { number = two.number; last = l; text = one.text }) last
    ∙ ap (λ t. record { number = two.number; last = two.last; text = t }) text

sum_covered : (frame : FrameContent) → checksum frame ≡ sum (covered_of frame) % 256
unfolding covered_of
sum_covered frame =
    let parts : sum (frame.text ++ end_byte frame.last ∷ []) ≡ sum frame.text + sum (end_byte frame.last ∷ []) =
    sum_by-append (λ (x : ℕ). x) frame.text (end_byte frame.last ∷ []) in
    let first : sum (number_byte frame.number ∷ (frame.text ++ end_byte frame.last ∷ []))
    ≡ number_byte frame.number + sum (frame.text ++ end_byte frame.last ∷ []) =
    sum_by-cons (λ (x : ℕ). x) (number_byte frame.number) (frame.text ++ end_byte frame.last ∷ []) in
    let last : sum (end_byte frame.last ∷ []) ≡ end_byte frame.last + sum [] =
    sum_by-cons (λ (x : ℕ). x) (end_byte frame.last) [] in
    omega (arith, parts, first, last)

sum_split : (f m : List ℕ) (w : ℕ) → sum (f ++ w ∷ m) ≡ sum f + (w + sum m)
sum_split f m w =
    sum_by-append (λ (x : ℕ). x) f (w ∷ m) ∙ ap (λ n. sum f + n) (sum_by-cons (λ (x : ℕ). x) w m)

other_sum : (a w v : ℕ) → w ≢ v → w ≤ 255 → v ≤ 255 → (a + w) % 256 ≡ (a + v) % 256 → ⊥
other_sum a w v differ small small' e = differ (omega arith)

-- two frames whose bytes between STX and LF differ in one byte are the same, with another digit
record IsOf (limit : ℕ) (frame : FrameContent) (inner : List ℕ) : Type 0 where
  high : ℕ
  low : ℕ
  digits : IsDigits high low (checksum frame)
  inner_is : covered_of frame ++ (high ∷ low ∷ CR ∷ []) ≡ inner

same_value : (a b : ℕ) (x y : ℕ) → digit_value a ≡ Some x → digit_value b ≡ Some y → a ≡ b → x ≡ y
same_value a b x y one two e =
    let moved : digit_value b ≡ Some x = subst (λ d. digit_value d ≡ Some x) e one in
    cc

module _ (limit : ℕ) (one two : FrameContent) (f : List ℕ) (w v : ℕ) (differ : w ≢ v) (small : w ≤ 255)
    (small' : v ≤ 255) where
  both_covered :
      (x y z : ℕ) (more : List ℕ)
      → IsOf limit one (f ++ w ∷ (x ∷ y ∷ z ∷ more)) → IsOf limit two (f ++ v ∷ (x ∷ y ∷ z ∷ more)) → ⊥
  both_covered x y z more a b =
      let left = covered (covered_of one) f a.high a.low CR w x y z more a.inner_is in
      let right = covered (covered_of two) f b.high b.low CR v x y z more b.inner_is in
      let ends_same : left.middle ++ (a.high ∷ a.low ∷ CR ∷ []) ≡ right.middle ++ (b.high ∷ b.low ∷ CR ∷ []) =
      sym left.following_is ∙ right.following_is in
      let middles : left.middle ≡ right.middle =
      third_last left.middle right.middle a.high a.low CR b.high b.low CR ends_same in
      let digits : a.high ∷ a.low ∷ CR ∷ [] ≡ b.high ∷ b.low ∷ CR ∷ [] =
      cancel_front right.middle _ _ (subst (λ (m : List ℕ). m ++ (a.high ∷ a.low ∷ CR ∷ [])
      ≡ right.middle ++ (b.high ∷ b.low ∷ CR ∷ [])) middles ends_same) in
      let high : a.high ≡ b.high = cc in
      let low : a.low ≡ b.low = cc in
      let high_value = same_value a.high b.high a.digits.high_value b.digits.high_value a.digits.is_high
      b.digits.is_high high in
      let low_value = same_value a.low b.low a.digits.low_value b.digits.low_value a.digits.is_low b.digits.is_low
      low in
      let sums : checksum one ≡ checksum two =
      omega (arith, a.digits.value_is, b.digits.value_is, high_value, low_value) in
      let one_sum : checksum one ≡ (sum f + (w + sum right.middle)) % 256 =
      sum_covered one ∙ ap (λ xs. sum xs % 256) left.covered_is
      ∙ ap (λ n. n % 256) (sum_split f left.middle w) ∙ ap (λ m. (sum f + (w + sum m)) % 256) middles in
      let two_sum : checksum two ≡ (sum f + (v + sum right.middle)) % 256 =
      sum_covered two ∙ ap (λ xs. sum xs % 256) right.covered_is ∙ ap (λ n. n % 256) (sum_split f right.middle v) in
      other_sum (sum f + sum right.middle) w v differ small small' (omega (arith, sums, one_sum, two_sum))
    where
      cancel_front : (m xs ys : List ℕ) → m ++ xs ≡ m ++ ys → xs ≡ ys
      cancel_front [] xs ys e = e
      cancel_front (k ∷ m) xs ys e = cancel_front m xs ys cc

  same_but_digit : (following : List ℕ) → IsOf limit one (f ++ w ∷ following) → IsOf limit two (f ++ v ∷ following)
      → one ≡ two
  same_but_digit [] a b =
      let left : w ≡ CR = last_is (covered_of one) f a.high a.low CR w a.inner_is in
      let right : v ≡ CR = last_is (covered_of two) f b.high b.low CR v b.inner_is in
      absurd (differ (left ∙ sym right))
  same_but_digit (x ∷ []) a b =
      let left = second_last (covered_of one) f a.high a.low CR w x a.inner_is in
      let right = second_last (covered_of two) f b.high b.low CR v x b.inner_is in
      same_frame one two (cancel_last (covered_of one) (covered_of two) a.high b.high (left ∙ sym right)).0
  same_but_digit (x ∷ y ∷ []) a b =
      let left = third_last (covered_of one) f a.high a.low CR w x y a.inner_is in
      let right = third_last (covered_of two) f b.high b.low CR v x y b.inner_is in
      same_frame one two (left ∙ sym right)
  same_but_digit (x ∷ y ∷ z ∷ more) a b = absurd (both_covered x y z more a b)

-- ---- there is no frame before an early LF

abbrev is_end : ℕ → Bool
is_end b = b == ETX || b == ETB

abbrev pub after_end_by : Bool → List ℕ → List ℕ → List ℕ
after_end_by true bytes later = bytes
after_end_by false bytes later = later

abbrev pub after_end : List ℕ → List ℕ
after_end [] = []
after_end (b ∷ bytes) = after_end_by (is_end b) bytes (after_end bytes)

after_end-first : (before : List ℕ) (e : ℕ) (rest : List ℕ) → NonePass is_end before → is_end e ≡ true
    → after_end (before ++ e ∷ rest) ≡ rest
after_end-first [] e rest none ends_it = ap (λ t. after_end_by t rest (after_end rest)) ends_it
after_end-first (b ∷ before) e rest none ends_it =
    ap (λ t. after_end_by t (before ++ e ∷ rest) (after_end (before ++ e ∷ rest))) none.0
    ∙ after_end-first before e rest none.1 ends_it

no_end_byte : (b : ℕ) → is_forbidden b ≡ false → is_end b ≡ false
no_end_byte b h = grind (arith, nat_tests)

end_is_end : (last : Bool) → is_end (end_byte last) ≡ true
end_is_end true = refl
end_is_end false = refl

after_end-inner : (limit : ℕ) (frame : FrameContent) (high low : ℕ) (rest : List ℕ) → IsContent limit frame
    → after_end (inner_of frame high low ++ rest) ≡ high ∷ low ∷ CR ∷ rest
after_end-inner limit frame high low rest content =
    let before : List ℕ = number_byte frame.number ∷ frame.text in
    let number : is_forbidden (number_byte frame.number) ≡ false =
    grind (arith, nat_tests, content.number_in_range) in
    let whole : inner_of frame high low ++ rest ≡ before ++ end_byte frame.last ∷ (high ∷ low ∷ CR ∷ rest) =
    ap (λ (xs : List ℕ). number_byte frame.number ∷ xs)
    (append_assoc frame.text (end_byte frame.last ∷ high ∷ low ∷ CR ∷ []) rest) in
    ap after_end whole
    ∙ after_end-first before (end_byte frame.last) (high ∷ low ∷ CR ∷ rest) (
      no_end_byte (number_byte frame.number) number,
      none_pass-text is_end no_end_byte 0 frame.text content.is_text.clean,
    )
    (end_is_end frame.last)

early : (limit : ℕ) (bytes : List ℕ) (frame : FrameContent) (is_frame : IsFrame limit bytes frame) (f b : List ℕ)
    (w : ℕ) → f ++ w ∷ b ≡ inner_of frame is_frame.high is_frame.low → body_fault limit f ≡ None → ⊥
early limit bytes frame is_frame f b w e none =
    let other = found limit f none in
    let f_is : f ≡ inner_of (content_of f) other.high other.low =
    inner_same f (inner_of (content_of f) other.high other.low)
    (encoding_of limit (STX ∷ (f ++ LF ∷ [])) (content_of f) other) in
    let one : after_end (f ++ w ∷ b) ≡ is_frame.high ∷ is_frame.low ∷ CR ∷ [] =
    ap after_end (e ∙ sym (append-nil (inner_of frame is_frame.high is_frame.low)))
    ∙ after_end-inner limit frame is_frame.high is_frame.low [] is_frame.content in
    let two : after_end (f ++ w ∷ b) ≡ other.high ∷ other.low ∷ CR ∷ (w ∷ b) =
    ap (λ (xs : List ℕ). after_end (xs ++ w ∷ b)) f_is
    ∙ after_end-inner limit (content_of f) other.high other.low (w ∷ b) other.content in
    let same = sym one ∙ two in
    cc

-- ---- what is heard

unchanged : (within : Option (List ℕ)) (b : ℕ) → (b == STX) ≡ false → heard_as within b ≡ b
unchanged None b e = refl
unchanged (Some body) b e = rw e refl

-- bytes that are neither marks nor special give nothing
inner_step : (limit x : ℕ) (ys : List ℕ) (r : ReceiverState) → is_mark x ≡ false → is_special x ≡ false
    → careful_signals limit (x ∷ ys) r ≡ careful_signals limit ys (with_heard (x ∷ []) r)
inner_step limit x ys r inner plain =
    let goes : ends_session r x ≡ false =
    ap (λ t. r.is_open && t) (second_false (x == STX) (x == ENQ || x == EOT) plain) ∙ none_ends r.is_open in
    let same : heard_as (open_body r.past) x ≡ x =
    unchanged (open_body r.past) x (first_false (x == STX) (x == ENQ || x == EOT) plain) in
    let silent : signal_after limit r.past x ≡ None = inner_silent limit r.past x inner in
    ap (λ t. with_heard_first (careful_signal_by t (signal_after limit r.past (heard_as (open_body r.past) x)))
    (careful_signals limit ys (careful_by t limit x r).after)) goes
    ∙ ap (λ c. with_heard_first (option_map gives (signal_after limit r.past c))
    (careful_signals limit ys (on_byte limit c r).after)) same
    ∙ ap (λ o. with_heard_first (option_map gives o) (careful_signals limit ys (heard {limit = limit} o
    (with_heard (x ∷ []) r)).after)) silent

inner_passes : (limit : ℕ) (xs ys : List ℕ) (r : ReceiverState) → NonePass is_mark xs → NonePass is_special xs
    → careful_signals limit (xs ++ ys) r ≡ careful_signals limit ys (with_heard xs r)
inner_passes limit [] ys r inner plain = refl
inner_passes limit (x ∷ xs) ys r inner plain =
    inner_step limit x (xs ++ ys) r inner.0 plain.0
    ∙ inner_passes limit xs ys (with_heard (x ∷ []) r) inner.1 plain.1

-- an STX that begins a frame
pub start_outside : (limit : ℕ) (ys : List ℕ) (r : ReceiverState) → open_body r.past ≡ None
    → careful_signals limit (STX ∷ ys) r ≡ careful_signals limit ys (with_heard (STX ∷ []) r)
unfolding signal_after
start_outside limit ys r outside =
    ap (λ t. with_heard_first (careful_signal_by t (signal_after limit r.past (heard_as (open_body r.past) STX)))
    (careful_signals limit ys (careful_by t limit STX r).after)) (none_ends r.is_open)
    ∙ ap (λ o. with_heard_first (option_map gives (signal_after limit r.past (heard_as o STX)))
    (careful_signals limit ys (on_byte limit (heard_as o STX) r).after)) outside

-- ENQ or EOT
ends_here : (limit b : ℕ) (ys : List ℕ) (r : ReceiverState) → r.is_open ≡ true → (b == ENQ || b == EOT) ≡ true
    → careful_signals limit (b ∷ ys) r ≡ ends ∷ careful_signals limit ys (closed r)
ends_here limit b ys r is_open special =
    let ended : ends_session r b ≡ true = rw (is_open, special) refl in
    ap (λ t. with_heard_first (careful_signal_by t (signal_after limit r.past (heard_as (open_body r.past) b)))
    (careful_signals limit ys (careful_by t limit b r).after)) ended

-- what comes after the end of a body gives nothing
open-none : (past xs : List ℕ) → NonePass is_mark xs → open_body past ≡ None → open_body (stream_with past xs) ≡ None
open-none past [] inner is = is
open-none past (x ∷ xs) inner is =
    open-none (x ∷ past) xs inner.1
    (open-next past x inner.0 ∙ ap (option_map (λ (s : List ℕ). s ++ x ∷ [])) is)

signals-none : (limit : ℕ) (past xs : List ℕ) → NonePass is_mark xs → open_body past ≡ None
    → signals_after limit past (xs ++ LF ∷ []) ≡ []
unfolding signal_after
signals-none limit past xs inner is =
    signals-inner limit past xs (LF ∷ []) inner ∙ rw (open-none past xs inner is) refl

unheard_rest : (limit : ℕ) (xs : List ℕ) (r : ReceiverState) → NonePass is_mark xs → NonePass is_special xs
    → open_body r.past ≡ None → careful_signals limit (xs ++ LF ∷ []) r ≡ []
unheard_rest limit xs r inner plain is =
    signals-unspecial limit (xs ++ LF ∷ []) r
    (are_unspecial (xs ++ LF ∷ []) (none_pass-append is_special xs (LF ∷ []) plain (refl, tt)))
    ∙ ap (map gives) (signals-none limit r.past xs inner is)

-- ---- which byte it is

data Kind (b : ℕ) : Type 0 where
  stops : (b == ENQ || b == EOT) ≡ true → Kind b
  starts : b ≡ STX → Kind b
  feeds : b ≡ LF → Kind b
  ordinary : is_mark b ≡ false → is_special b ≡ false → Kind b

kind_of : (b : ℕ) → Kind b
kind_of b = by (b == ENQ || b == EOT) (b == STX) (b == LF) refl refl refl
  where
    by : (stop start feed : Bool) → (b == ENQ || b == EOT) ≡ stop → (b == STX) ≡ start → (b == LF) ≡ feed → Kind b
    by true start feed e f g = stops e
    by false true feed e f g = starts (grind (arith, nat_tests))
    by false false true e f g = feeds (grind (arith, nat_tests))
    by false false false e f g = ordinary (grind (arith, nat_tests)) (grind (arith, nat_tests))

none_left : (f : ℕ → Bool) (xs ys : List ℕ) → NonePass f (xs ++ ys) → NonePass f xs
none_left f [] ys h = tt
none_left f (x ∷ xs) ys h = (h.0, none_left f xs ys h.1)

none_right : (f : ℕ → Bool) (xs ys : List ℕ) → NonePass f (xs ++ ys) → NonePass f ys
none_right f [] ys h = h
none_right f (x ∷ xs) ys h = none_right f xs ys h.1

-- ---- the byte is the frame's STX

first_byte : (limit is : ℕ) (frame : FrameContent) (inner : List ℕ) (r : ReceiverState) → r.is_open ≡ true
    → open_body r.past ≡ None → NonePass is_mark inner → NonePass is_special inner → STX ≢ is
    → IsHeardAs frame (careful_signals limit (is ∷ (inner ++ LF ∷ [])) r)
unfolding open_body signal_after
first_byte limit is frame inner r is_open outside marks specials differ = by (kind_of is)
  where
    by : Kind is → IsHeardAs frame (careful_signals limit (is ∷ (inner ++ LF ∷ [])) r)
    by (stops e) = session_end (ends_here limit is (inner ++ LF ∷ []) r is_open e
        ∙ ap (λ xs. ends ∷ xs) (unheard_rest limit inner (closed r) marks specials refl))
    by (starts e) = absurd (differ (sym e))
    by (feeds e) = nothing (signals-unspecial limit (is ∷ (inner ++ LF ∷ [])) r (
      ap is_special e,
      are_unspecial (inner ++ LF ∷ [])
          (none_pass-append is_special inner (LF ∷ []) specials (refl, tt)),
    )
        ∙ ap (map gives) (ap (λ b. signals_after limit r.past (b ∷ (inner ++ LF ∷ []))) e
        ∙ feed_outside ∙ signals-none limit (LF ∷ r.past) inner marks refl))
      where
        feed_outside : signals_after limit r.past (LF ∷ (inner ++ LF ∷ []))
            ≡ signals_after limit (LF ∷ r.past) (inner ++ LF ∷ [])
        feed_outside = ap (λ o. with_signal (ended_body limit o) (signals_after limit (LF ∷ r.past)
            (inner ++ LF ∷ []))) outside
    by (ordinary inner_is plain) = nothing (inner_step limit is (inner ++ LF ∷ []) r inner_is plain
        ∙ unheard_rest limit inner (with_heard (is ∷ []) r) marks specials
        (open-next r.past is inner_is ∙ ap (option_map (λ (s : List ℕ). s ++ is ∷ [])) outside))

-- ---- it is the frame's LF

-- nothing, or the end of the session
abbrev pub NoFrame : {limit : ℕ} → List (CarefulSignal limit) → Type 0
NoFrame signals = (signals ≡ []) ⊎ (signals ≡ ends ∷ [])

last_byte : (limit is : ℕ) (inner : List ℕ) (r : ReceiverState) → r.is_open ≡ true
    → open_body r.past ≡ Some inner → LF ≢ is
    → NoFrame (careful_signals limit (is ∷ []) r)
unfolding signal_after
last_byte limit is inner r is_open within differ = by (kind_of is)
  where
    by : Kind is → NoFrame (careful_signals limit (is ∷ []) r)
    by (stops e) = inr (ends_here limit is [] r is_open e)
    by (starts e) = inl (ap (λ b. careful_signals limit (b ∷ []) r) e ∙ start_within limit [] inner r within)
    by (feeds e) = absurd (differ (sym e))
    by (ordinary inner_is plain) = inl (inner_step limit is [] r inner_is plain)

of_no_frame : {limit : ℕ} (frame : FrameContent) (signals : List (CarefulSignal limit)) → NoFrame signals
    → IsHeardAs frame signals
of_no_frame frame signals (inl none) = nothing none
of_no_frame frame signals (inr ended) = session_end ended

-- the whole frame but for its LF
pub last_place : (limit is : ℕ) (bytes : List ℕ) (frame : FrameContent) (is_frame : IsFrame limit bytes frame)
    (f : List ℕ) (was : ℕ) (r : ReceiverState)
    → f ++ was ∷ [] ≡ inner_of frame is_frame.high is_frame.low ++ LF ∷ []
    → was ≢ is → r.is_open ≡ true → open_body r.past ≡ Some []
    → NoFrame (careful_signals limit (f ++ is ∷ []) r)
last_place limit is bytes frame is_frame f was r e differ is_open opened =
    let inner : List ℕ = inner_of frame is_frame.high is_frame.low in
    let same = cancel_last f inner was LF e in
    let marks : NonePass is_mark f = subst (NonePass is_mark) (sym same.0)
    (none_pass-frame is_mark no_mark end_no_mark limit bytes frame is_frame) in
    let specials : NonePass is_special f = subst (NonePass is_special) (sym same.0)
    (none_pass-frame is_special unspecial end_unspecial limit bytes frame is_frame) in
    subst (λ (signals : List (CarefulSignal limit)). NoFrame signals)
    (sym (inner_passes limit f (is ∷ []) r marks specials))
    (last_byte limit is f (with_heard f r) is_open (open-inner r.past f [] marks opened)
    (λ same_byte. differ (same.1 ∙ same_byte)))

-- ---- it is between them

-- bytes without a mark, and then LF, where a body is open
body_read : (limit : ℕ) (xs body : List ℕ) (r : ReceiverState) → NonePass is_mark xs → NonePass is_special xs
    → open_body r.past ≡ Some body
    → careful_signals limit (xs ++ LF ∷ []) r ≡ gives (read_body limit (body ++ xs)) ∷ []
body_read limit xs body r marks specials within =
    signals-unspecial limit (xs ++ LF ∷ []) r
    (are_unspecial (xs ++ LF ∷ []) (none_pass-append is_special xs (LF ∷ []) specials (refl, tt)))
    ∙ ap (map gives) (signals-ended limit r.past xs body marks within)

feeds_early : (limit : ℕ) (xs body : List ℕ) (r : ReceiverState) → NonePass is_mark xs → NonePass is_special xs
    → open_body r.past ≡ Some body
    → careful_signals limit (LF ∷ (xs ++ LF ∷ [])) r ≡ gives (read_body limit body) ∷ []
unfolding signal_after open_body
feeds_early limit xs body r marks specials within =
    signals-unspecial limit (LF ∷ (xs ++ LF ∷ [])) r
    (refl, are_unspecial (xs ++ LF ∷ []) (none_pass-append is_special xs (LF ∷ []) specials (refl, tt)))
    ∙ ap (map gives) (ap (λ o. with_signal (ended_body limit o) (signals_after limit (LF ∷ r.past) (xs ++ LF ∷ [])))
    within ∙ ap (λ rest. read_body limit body ∷ rest) (signals-none limit (LF ∷ r.past) xs marks refl))

bad_read : (limit : ℕ) (s : List ℕ) (fault : FrameFault) → body_fault limit s ≡ Some fault
    → read_body limit s ≡ Bad fault
bad_read limit s fault e = ap (signal_of_fault s) e

is_of : (limit : ℕ) (bytes : List ℕ) (frame : FrameContent) (is_frame : IsFrame limit bytes frame) (inner : List ℕ)
    → inner_of frame is_frame.high is_frame.low ≡ inner → IsOf limit frame inner
is_of limit bytes frame is_frame inner e = record {
  high = is_frame.high;
  low = is_frame.low;
  digits = is_frame.digits;
  inner_is = sym (inner_parts frame is_frame.high is_frame.low) ∙ e;
}

module _ (limit was is : ℕ) (bytes : List ℕ) (frame : FrameContent) (is_frame : IsFrame limit bytes frame)
    (f b : List ℕ) (inner_is : f ++ was ∷ b ≡ inner_of frame is_frame.high is_frame.low) (differ : was ≢ is)
    (small : was ≤ 255) (small' : is ≤ 255) (r : ReceiverState) (is_open : r.is_open ≡ true)
    (within : open_body r.past ≡ Some f) where
  marks : NonePass is_mark (f ++ was ∷ b)
  marks = subst (NonePass is_mark) (sym inner_is)
      (none_pass-frame is_mark no_mark end_no_mark limit bytes frame is_frame)

  specials : NonePass is_special (f ++ was ∷ b)
  specials = subst (NonePass is_special) (sym inner_is)
      (none_pass-frame is_special unspecial end_unspecial limit bytes frame is_frame)

  b_marks : NonePass is_mark b
  b_marks = (none_right is_mark f (was ∷ b) marks).1

  b_specials : NonePass is_special b
  b_specials = (none_right is_special f (was ∷ b) specials).1

  -- a body that is heard whole is a bad one, or this frame
  whole : (e : Option FrameFault) → body_fault limit (f ++ is ∷ b) ≡ e
      → careful_signals limit (is ∷ (b ++ LF ∷ [])) r ≡ gives (read_body limit (f ++ is ∷ b)) ∷ []
      → IsHeardAs frame (careful_signals limit (is ∷ (b ++ LF ∷ [])) r)
  whole (Some fault) e heard_is =
      bad_frame fault (heard_is ∙ ap (λ s. gives s ∷ []) (bad_read limit (f ++ is ∷ b) fault e))
  whole None e heard_is =
      let s : List ℕ = f ++ is ∷ b in
      let other = found limit s e in
      let s_is : s ≡ inner_of (content_of s) other.high other.low =
      inner_same s (inner_of (content_of s) other.high other.low)
      (encoding_of limit (STX ∷ (s ++ LF ∷ [])) (content_of s) other) in
      let same : frame ≡ content_of s = same_but_digit limit frame (content_of s) f was is differ small small' b
      (is_of limit bytes frame is_frame (f ++ was ∷ b) (sym inner_is))
      (is_of limit (STX ∷ (s ++ LF ∷ [])) (content_of s) other s (sym s_is)) in
      itself (heard_is ∙ ap (λ o. gives (signal_of_fault s o) ∷ []) e ∙ ap (λ c. gives (Good c) ∷ []) (sym same))

  inner_byte : Kind is → IsHeardAs frame (careful_signals limit (is ∷ (b ++ LF ∷ [])) r)
  unfolding open_body
  inner_byte (stops e) = session_end (ends_here limit is (b ++ LF ∷ []) r is_open e
      ∙ ap (λ xs. ends ∷ xs) (unheard_rest limit b (closed r) b_marks b_specials refl))
  inner_byte (starts e) =
      let bad = has_fault limit f b in
      let next : ReceiverState = with_heard (DLE ∷ []) r in
      let opened : open_body (DLE ∷ r.past) ≡ Some (f ++ DLE ∷ []) =
      open-next r.past DLE refl ∙ ap (option_map (λ (s : List ℕ). s ++ DLE ∷ [])) within in
      bad_frame bad.0 (ap (λ x. careful_signals limit (x ∷ (b ++ LF ∷ [])) r) e
      ∙ start_within limit (b ++ LF ∷ []) f r within
      ∙ body_read limit b (f ++ DLE ∷ []) next b_marks b_specials opened
      ∙ ap (λ s. gives (read_body limit s) ∷ []) (append_assoc f (DLE ∷ []) b)
      ∙ ap (λ s. gives s ∷ []) (bad_read limit (f ++ DLE ∷ b) bad.0 bad.1))
  inner_byte (feeds e) = feed (body_fault limit f) refl
    where
      feed : (fault : Option FrameFault) → body_fault limit f ≡ fault
          → IsHeardAs frame (careful_signals limit (is ∷ (b ++ LF ∷ [])) r)
      feed None none = absurd (early limit bytes frame is_frame f b was inner_is none)
      feed (Some fault) some = bad_frame fault (ap (λ x. careful_signals limit (x ∷ (b ++ LF ∷ [])) r) e
          ∙ feeds_early limit b f r b_marks b_specials within
          ∙ ap (λ s. gives s ∷ []) (bad_read limit f fault some))
  inner_byte (ordinary mark plain) =
      whole (body_fault limit (f ++ is ∷ b)) refl
      (body_read limit (is ∷ b) f r (mark, b_marks) (plain, b_specials) within)

-- ---- any byte

pub record EndsWith (a : ℕ) (xs : List ℕ) : Type 0 where
  pub front : List ℕ
  pub last : ℕ
  pub list_is : a ∷ xs ≡ front ++ last ∷ []

pub ends_with : (a : ℕ) (xs : List ℕ) → EndsWith a xs
ends_with a [] = record { front = []; last = a; list_is = refl }
ends_with a (x ∷ xs) =
    let rest = ends_with x xs in
    record { front = a ∷ rest.front; last = rest.last; list_is = ap (λ (ys : List ℕ). a ∷ ys) rest.list_is }

after_start : (limit was is : ℕ) (bytes : List ℕ) (frame : FrameContent) (is_frame : IsFrame limit bytes frame)
    (f rest : List ℕ) (r : ReceiverState)
    → f ++ was ∷ rest ≡ inner_of frame is_frame.high is_frame.low ++ LF ∷ []
    → was ≢ is → was ≤ 255 → is ≤ 255 → r.is_open ≡ true → open_body r.past ≡ Some []
    → IsHeardAs frame (careful_signals limit (f ++ is ∷ rest) r)
after_start limit was is bytes frame is_frame f [] r e differ small small' is_open opened =
    of_no_frame frame (careful_signals limit (f ++ is ∷ []) r)
    (last_place limit is bytes frame is_frame f was r e differ is_open opened)
after_start limit was is bytes frame is_frame f (a ∷ rest) r e differ small small' is_open opened =
    let inner : List ℕ = inner_of frame is_frame.high is_frame.low in
    let end = ends_with a rest in
    let moved : (f ++ was ∷ end.front) ++ end.last ∷ [] ≡ inner ++ LF ∷ [] =
    append_assoc f (was ∷ end.front) (end.last ∷ [])
    ∙ ap (λ (xs : List ℕ). f ++ was ∷ xs) (sym end.list_is) ∙ e in
    let same = cancel_last (f ++ was ∷ end.front) inner end.last LF moved in
    let rest_is : a ∷ rest ≡ end.front ++ LF ∷ [] =
    end.list_is ∙ ap (λ (x : ℕ). end.front ++ x ∷ []) same.1 in
    let marks : NonePass is_mark (f ++ was ∷ end.front) = subst (NonePass is_mark) (sym same.0)
    (none_pass-frame is_mark no_mark end_no_mark limit bytes frame is_frame) in
    let specials : NonePass is_special (f ++ was ∷ end.front) = subst (NonePass is_special) (sym same.0)
    (none_pass-frame is_special unspecial end_unspecial limit bytes frame is_frame) in
    let f_marks = none_left is_mark f (was ∷ end.front) marks in
    let f_specials = none_left is_special f (was ∷ end.front) specials in
    subst (IsHeardAs frame)
    (sym (inner_passes limit f (is ∷ (a ∷ rest)) r f_marks f_specials
    ∙ ap (λ (xs : List ℕ). careful_signals limit (is ∷ xs) (with_heard f r)) rest_is))
    (inner_byte limit was is bytes frame is_frame f end.front same.0 differ small small' (with_heard f r) is_open
    (open-inner r.past f [] f_marks opened) (kind_of is))

pub one_byte_is_noticed : (limit : ℕ) → OneByteIsNoticed limit
unfolding open_body
one_byte_is_noticed limit r frame [] after was is is_open outside is_frame differ small small' =
    let inner : List ℕ = inner_of frame is_frame.high is_frame.low in
    let e : was ∷ after ≡ STX ∷ (inner ++ LF ∷ []) = encoding_of limit (was ∷ after) frame is_frame in
    let first : was ≡ STX = cc in
    let rest : after ≡ inner ++ LF ∷ [] = cc in
    subst (IsHeardAs frame) (ap (λ (xs : List ℕ). careful_signals limit (is ∷ xs) r) (sym rest))
    (first_byte limit is frame inner r is_open outside
    (none_pass-frame is_mark no_mark end_no_mark limit (was ∷ after) frame is_frame)
    (none_pass-frame is_special unspecial end_unspecial limit (was ∷ after) frame is_frame)
    (λ same. differ (first ∙ same)))
one_byte_is_noticed limit r frame (q ∷ f) after was is is_open outside is_frame differ small small' =
    let inner : List ℕ = inner_of frame is_frame.high is_frame.low in
    let e : q ∷ (f ++ was ∷ after) ≡ STX ∷ (inner ++ LF ∷ []) =
    encoding_of limit (q ∷ (f ++ was ∷ after)) frame is_frame in
    let first : q ≡ STX = cc in
    let rest : f ++ was ∷ after ≡ inner ++ LF ∷ [] = cc in
    subst (IsHeardAs frame)
    (sym (ap (λ x. careful_signals limit (x ∷ (f ++ is ∷ after)) r) first
    ∙ start_outside limit (f ++ is ∷ after) r outside))
    (after_start limit was is (q ∷ (f ++ was ∷ after)) frame is_frame f after (with_heard (STX ∷ []) r) rest differ
    small small' is_open refl)
