-- A frame at the front of bytes, whatever follows it.
use Rattle.std.proofs.Common.{◌≡◌, ℕ, suc, ◌+◌, ◌%◌, ◌≤◌, Bool, true, false, cond, List, [], ◌∷◌, ◌++◌, None, Some}
use Rattle.std.proofs.Common.{length, take, drop, get_or, refl, ap, sym, ◌∙◌, arith, add-zero, zero-add, append_assoc}
use Rattle.std.proofs.Common.{length-take, take-append-drop}
use Rattle.std.proofs.Math.Seq.{take-append-add, take-append_seam, drop-append_seam}
use Rattle.std.specs.Prelude.{◌==◌, ◌&&◌, ◌||◌}
use Rattle.std.specs.List.{position_from, sum}
use Rattle.lis_text.specs.Control.{STX, ETX, ETB, CR, LF}
use Rattle.lis_text.specs.Text.{first_forbidden, is_forbidden}
use Rattle.lis_frame.specs.Frame.{BeginsWith, FrameContent, IsFrame, checksum, digit_value, end_byte, number_byte}
use Rattle.lis_frame.specs.FrameBody.{content_of, body_fault, is_value, pair_value}
use Rattle.lis_frame.specs.inside.FrameBody.{body_of}
use Rattle.lis_frame.proofs.FrameLaws.{found, value_by}

take_five : (xs : List ℕ) → 5 ≤ length xs → take 5 xs ≡ get_or xs 0 0 ∷ get_or xs 1 0 ∷ get_or xs 2 0
    ∷ get_or xs 3 0 ∷ get_or xs 4 0 ∷ []
take_five [] h = absurd (omega arith)
take_five (a ∷ []) h = absurd (omega arith)
take_five (a ∷ b ∷ []) h = absurd (omega arith)
take_five (a ∷ b ∷ c ∷ []) h = absurd (omega arith)
take_five (a ∷ b ∷ c ∷ d ∷ []) h = absurd (omega arith)
take_five (a ∷ b ∷ c ∷ d ∷ e ∷ xs) h = refl

-- the frame body before the LF that is after it
abbrev pub body_at : ℕ → List ℕ → ℕ → List ℕ
body_at number following place =
    let rest = drop place following in
    body_of number (take place following) (get_or rest 0 0) (get_or rest 1 0) (get_or rest 2 0) (get_or rest 3 0)

front : (number place : ℕ) (following : List ℕ) → place ≤ length following → 5 ≤ length (drop place following)
    → get_or (drop place following) 4 0 ≡ LF →
    take (place + 6) (number ∷ following) ≡ body_at number following place ++ LF ∷ []
front number place following fits five ended =
    let long : length (take place following) ≡ place = omega (arith, length-take place following) in
    let six : place + 6 ≡ suc (length (take place following) + 5) = omega (arith, long) in
    let taken = take-append-add (take place following) (drop place following) 5 in
    let all : take (length (take place following) + 5) following ≡ take place following ++ take 5
    (drop place following) =
    rw (take-append-drop place following) at taken in
    rw six
    (ap (λ (xs : List ℕ). number ∷ xs)
    (all ∙ rw (take_five (drop place following) five, ended) (sym (append_assoc (take place following) _ (LF ∷ [])))))

pub front-frame :
    (limit number place : ℕ) (following : List ℕ) (frame : FrameContent) → place ≤ length following
    → 5 ≤ length (drop place following) →
    get_or (drop place following) 4 0 ≡ LF → body_fault limit (body_at number following place) ≡ None
    → frame ≡ content_of (body_at number following place) →
    IsFrame limit (STX ∷ take (place + 6) (number ∷ following)) frame
front-frame limit number place following frame fits five ended sound is =
    rw (front number place following fits five ended, is) (found limit (body_at number following place) sound)

-- after bytes that none is found in, the next one is the first
first-following :
    (f : ℕ → Bool) (i : ℕ) (xs ys : List ℕ) (y : ℕ) → position_from f i xs ≡ None → f y ≡ true →
    position_from f i (xs ++ y ∷ ys) ≡ Some (i + length xs)
first-following f i [] ys y clean found = rw (found, add-zero i) refl
first-following f i (x ∷ xs) ys y clean found = by (f x) clean (first-following f (i + 1) xs ys y)
  where
    by :
        (test : Bool) → cond test (Some i) (position_from f (i + 1) xs) ≡ None →
        (position_from f (i + 1) xs ≡ None → f y ≡ true
        → position_from f (i + 1) (xs ++ y ∷ ys) ≡ Some (i + 1 + length xs)) →
        cond test (Some i) (position_from f (i + 1) (xs ++ y ∷ ys)) ≡ Some (i + suc (length xs))
    by true clean later = cc
    by false clean later = let at : i + suc (length xs) ≡ i + 1 + length xs = omega arith in
        rw at (later clean found)

pub same_place : {n m : ℕ} → Some n ≡ Some m → n ≡ m
same_place e = cc

second_of : {a b x y : ℕ} {xs ys : List ℕ} → a ∷ x ∷ xs ≡ b ∷ y ∷ ys → x ≡ y
second_of e = cc

following_second : {a b x y : ℕ} {xs ys : List ℕ} → a ∷ x ∷ xs ≡ b ∷ y ∷ ys → xs ≡ ys
following_second e = cc

-- what is after an STX and a number where bytes begin with a frame
pub record FrontParts (limit number : ℕ) (following : List ℕ) (frame : FrameContent) : Type 0 where
  pub high : ℕ
  pub low : ℕ
  pub rest : List ℕ
  pub number_is : number ≡ number_byte frame.number
  pub short : length frame.text ≤ limit
  pub first_is : first_forbidden following ≡ Some (length frame.text)
  pub text_is : take (length frame.text) following ≡ frame.text
  pub rest_is : drop (length frame.text) following ≡ end_byte frame.last ∷ high ∷ low ∷ CR ∷ LF ∷ rest
  pub shaped : (CR == CR && (end_byte frame.last == ETX || end_byte frame.last == ETB)) ≡ true
  pub summed : is_value (pair_value (digit_value high) (digit_value low))
      ((number + sum frame.text % 256 + end_byte frame.last) % 256) ≡ true

pub front_parts : (limit number : ℕ) (following : List ℕ) (frame : FrameContent)
    → BeginsWith limit (STX ∷ number ∷ following) frame → FrontParts limit number following frame
front_parts limit number following frame begins =
    let is = begins.is_frame in
    let tail = end_byte frame.last ∷ is.high ∷ is.low ∷ CR ∷ LF ∷ [] in
    let all : STX ∷ number ∷ following ≡ STX ∷ number_byte frame.number ∷ ((frame.text ++ tail) ++ begins.following) =
    begins.bytes_are ∙ ap (λ (xs : List ℕ). xs ++ begins.following) is.encoding in
    let following_is : following ≡ frame.text ++ (tail ++ begins.following) =
    following_second all ∙ append_assoc frame.text tail begins.following in
    let number_is : number ≡ number_byte frame.number = second_of all in
    let total : (number + sum frame.text % 256 + end_byte frame.last) % 256 ≡ checksum frame = omega (arith, number_is)
    in
    record {
      high = is.high;
      low = is.low;
      rest = begins.following;
      number_is = number_is;
      short = is.content.is_text.short;
      first_is = rw following_is (rw zero-add at (first-following is_forbidden 0 frame.text
          (is.high ∷ is.low ∷ CR ∷ LF ∷ begins.following) (end_byte frame.last)
          is.content.is_text.clean (forbidden frame.last)));
      text_is = rw following_is (take-append_seam frame.text (tail ++ begins.following));
      rest_is = rw following_is (drop-append_seam frame.text (tail ++ begins.following));
      shaped = shaped frame.last;
      summed = rw total (value_by is.high is.low (checksum frame) is.digits);
    }
  where
    forbidden : (last : Bool) → is_forbidden (end_byte last) ≡ true
    forbidden true = refl
    forbidden false = refl

    shaped : (last : Bool) → (CR == CR && (end_byte last == ETX || end_byte last == ETB)) ≡ true
    shaped true = refl
    shaped false = refl
