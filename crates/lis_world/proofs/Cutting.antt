-- The frames of a session: each is one that can be encoded, and its number reports its place.
use Rattle.std.proofs.Common.{◌≡◌, ℕ, zero, suc, ◌+◌, ◌*◌, ◌-◌, ◌/◌, ◌%◌, ◌<◌, ◌≤◌, Bool, true, false, List, [], ◌∷◌}
use Rattle.std.proofs.Common.{◌++◌, None, Some, length, take, drop, refl, ap, arith}
use Rattle.std.specs.Prelude.{All, if◌then◌else◌}
use Rattle.std.specs.List.{position_from}
use Rattle.std.proofs.lemmas.List.{length-take, length-drop}
use Rattle.std.proofs.lemmas.List.Elements.{All-nil, All-cons, All-head, All-tail, All-take, All-drop}
use Rattle.lis_frame.specs.Limit.{IsLimit}
use Rattle.lis_text.specs.LinkText.{longest_text}
use Rattle.lis_text.specs.Text.{is_forbidden, IsText}
use Rattle.lis_frame.specs.Frame.{FrameContent, IsContent}
use Rattle.lis_frame.specs.Pieces.{Piece, pieces_from, pieces, all_pieces, next_number, numbered, session_frames}

-- a list without a byte that passes the test, place by place
pub all_from_none : (t : ℕ → Bool) (i : ℕ) (xs : List ℕ) → position_from t i xs ≡ None → All (λ b. t b ≡ false) xs
all_from_none t i [] h = All-nil (λ b. t b ≡ false)
all_from_none t i (x ∷ xs) h = go (t x) refl h (all_from_none t (i + 1) xs)
  where
    go :
        (passes : Bool)
        → t x ≡ passes
        → (if passes then Some i else position_from t (i + 1) xs) ≡ None
        → (position_from t (i + 1) xs ≡ None → All (λ b. t b ≡ false) xs)
        → All (λ b. t b ≡ false) (x ∷ xs)
    go true e found later = cc
    go false e none later = All-cons (λ b. t b ≡ false) x xs e (later none)

none_from_all : (t : ℕ → Bool) (i : ℕ) (xs : List ℕ) → All (λ b. t b ≡ false) xs → position_from t i xs ≡ None
none_from_all t i [] h = refl
none_from_all t i (x ∷ xs) h =
    let here = All-head (λ b. t b ≡ false) x xs h in
    rw here (none_from_all t (i + 1) xs (All-tail (λ b. t b ≡ false) x xs h))

abbrev pub IsClean : List ℕ → Type 0
IsClean xs = All (λ b. is_forbidden b ≡ false) xs

abbrev AreContent : ℕ → List FrameContent → Type 0
AreContent limit frames = All (IsContent limit) frames

next_number_in_range : (n : ℕ) → next_number n ≤ 7
next_number_in_range n = omega arith

content-pieces_from :
    (limit full n : ℕ) (text : List ℕ) (later : List Piece)
    → n ≤ 7
    → length text ≤ full * limit + limit
    → IsClean text
    → ((m : ℕ) → m ≤ 7 → AreContent limit (numbered m later))
    → AreContent limit (numbered n (pieces_from limit full text ++ later))
content-pieces_from limit zero n text later in_range short clean rest =
    All-cons (IsContent limit) (record { number = n; last = true; text = text }) (numbered (next_number n) later)
    (record {
      number_in_range = in_range;
      is_text = record {
        short = omega arith;
        clean = none_from_all is_forbidden 0 text clean;
      };
    })
    (rest (next_number n) (next_number_in_range n))
content-pieces_from limit (suc full) n text later in_range short clean rest =
    let first : length (take limit text) ≤ limit = omega (arith, length-take limit text) in
    let left : length (drop limit text) ≤ full * limit + limit = omega (arith, length-drop limit text) in
    let cleanliness : ℕ → Type 0 = λ b. is_forbidden b ≡ false in
    All-cons (IsContent limit)
    (record { number = n; last = false; text = take limit text })
    (numbered (next_number n) (pieces_from limit full (drop limit text) ++ later))
    (record {
      number_in_range = in_range;
      is_text = record {
        short = first;
        clean = none_from_all is_forbidden 0 (take limit text) (All-take cleanliness
            limit text clean);
      };
    })
    (content-pieces_from limit full (next_number n) (drop limit text) later (next_number_in_range n) left
    (All-drop cleanliness limit text clean) rest)

content-all_pieces :
    (limit n : ℕ) (texts : List (List ℕ))
    → 0 < limit
    → n ≤ 7
    → All (IsText longest_text) texts
    → AreContent limit (numbered n (all_pieces limit texts))
unfolding pieces
content-all_pieces limit n [] some in_range h = All-nil (IsContent limit)
content-all_pieces limit n (text ∷ texts) some in_range h =
    let first = All-head (IsText longest_text) text texts h in
    let others = All-tail (IsText longest_text) text texts h in
    let short : length text ≤ ((length text - 1) / limit) * limit + limit = omega arith in
    content-pieces_from limit ((length text - 1) / limit) n text (all_pieces limit texts) in_range short
    (all_from_none is_forbidden 0 text first.clean)
    (λ m m_in_range. content-all_pieces limit m texts some m_in_range others)

pub content-session_frames :
    (limit : ℕ) (texts : List (List ℕ))
    → IsLimit limit
    → All (IsText longest_text) texts
    → All (IsContent limit) (session_frames limit texts)
unfolding session_frames
content-session_frames limit texts is_limit h =
    let some : 0 < limit = omega (arith, is_limit.at_least) in
    content-all_pieces limit 1 texts some (omega arith) h

-- a frame after others is the number of these after the first number
number-numbered :
    (n : ℕ) (pieces : List Piece) (before : List FrameContent) (f : FrameContent) (left : List FrameContent)
    → n ≤ 7
    → numbered n pieces ≡ before ++ f ∷ left
    → f.number ≡ (n + length before) % 8
number-numbered n [] [] f left in_range e = cc
number-numbered n [] (x ∷ before) f left in_range e = cc
number-numbered n (p ∷ ps) [] f left in_range e =
    let first : record { number = n; last = p.last; text = p.bytes } ≡ f = cc in
    let number_is : n ≡ f.number = ap (λ (g : FrameContent). g.number) first in
    omega arith
number-numbered n (p ∷ ps) (x ∷ before) f left in_range e =
    let later : numbered (next_number n) ps ≡ before ++ f ∷ left = cc in
    let deeper = number-numbered (next_number n) ps before f left (next_number_in_range n) later in
    omega arith

pub number-session_frames :
    (limit : ℕ) (texts : List (List ℕ)) (before : List FrameContent) (f : FrameContent) (left : List FrameContent)
    → session_frames limit texts ≡ before ++ f ∷ left
    → f.number ≡ (length before + 1) % 8
unfolding session_frames
number-session_frames limit texts before f left e =
    let at = number-numbered 1 (all_pieces limit texts) before f left (omega arith) e in
    omega arith
