-- The frames from a place of the texts on, one by one.
use Rattle.std.proofs.Common.{◌≡◌, ℕ, zero, suc, ◌+◌, ◌-◌, ◌%◌, ◌<◌, ◌≤◌, ◌⊎◌, inl, inr, true, false, List, [], ◌∷◌}
use Rattle.std.proofs.Common.{Option, None, Some, length, take, drop, get_or, refl, sym, ap, ◌∙◌, subst, arith}
use Rattle.std.proofs.Common.{length-drop, take_all, add-one}
use Rattle.std.specs.Prelude.{slice_get, nat_le, ◌==◌}
use Rattle.std.proofs.lemmas.Bool.{cases_lt, eq-eqb, ne_eqb}
use Rattle.std.proofs.lemmas.Bool.Decides.{nat_tests}
use Rattle.std.proofs.lemmas.List.{drop_all}
use Rattle.lis_frame.specs.Frame.{FrameContent}
use Rattle.lis_frame.specs.Pieces.{all_pieces, numbered, next_number, session_frames}
use Rattle.lis_frame.proofs.PieceLaws.{pieces-one, pieces-more, drop-add}
use Rattle.lis_link.specs.inside.Queue.{pieces_left, frames_left}

-- the text at a place is the first of those from there on
pub drop-at : (texts : List (List ℕ)) (index : ℕ) (text : List ℕ) → slice_get texts index ≡ Some text
    → drop index texts ≡ text ∷ drop (suc index) texts
drop-at [] index text e = absurd (cc)
drop-at (x ∷ xs) zero text e =
    let same : x ≡ text = cc in
    ap (λ t. t ∷ xs) same
drop-at (x ∷ xs) (suc index) text e = drop-at xs index text e

pub within-at : (texts : List (List ℕ)) (index : ℕ) (text : List ℕ) → slice_get texts index ≡ Some text
    → (index < length texts) × (get_or texts index [] ≡ text)
within-at [] index text e = absurd (cc)
within-at (x ∷ xs) zero text e =
    let same : x ≡ text = cc in
    (omega arith, same)
within-at (x ∷ xs) (suc index) text e =
    let later = within-at xs index text e in
    (omega arith, later.1)

past-none : (texts : List (List ℕ)) (index : ℕ) → slice_get texts index ≡ None → length texts ≤ index
past-none [] index e = omega arith
past-none (x ∷ xs) zero e = absurd (cc)
past-none (x ∷ xs) (suc index) e =
    let later = past-none xs index e in
    omega arith

left-none : (limit : ℕ) (texts : List (List ℕ)) (index offset number : ℕ) → length texts ≤ index
    → frames_left limit texts index offset number ≡ []
unfolding frames_left
left-none limit texts index offset number past = ap (λ ts. numbered number (pieces_left limit offset ts))
    (drop_all index texts past)

pub left-start : (limit : ℕ) (texts : List (List ℕ)) → frames_left limit texts 0 0 1 ≡ session_frames limit texts
unfolding frames_left session_frames
left-start limit [] = refl
left-start limit (text ∷ texts) = refl

-- the frame at a place
abbrev pub frame_at : ℕ → List ℕ → ℕ → ℕ → FrameContent
frame_at limit text offset number =
    record { number = number; last = nat_le (length text) (offset + limit); text = take limit (drop offset text) }

pub left-more :
    (limit : ℕ) (texts : List (List ℕ)) (index offset number : ℕ) (text : List ℕ)
    → 0 < limit
    → slice_get texts index ≡ Some text
    → limit < length text - offset
    → frames_left limit texts index offset number ≡ frame_at limit text offset number
    ∷ frames_left limit texts index (offset + limit) (next_number number)
unfolding frames_left
left-more limit texts index offset number text some at more =
    let here = drop-at texts index text at in
    let long : limit < length (drop offset text) = omega (arith, length-drop offset text) in
    let open_end : nat_le (length text) (offset + limit) ≡ false = grind (arith, nat_tests) in
    rw (here, pieces-more limit (drop offset text) some long, drop-add offset limit text, open_end) refl

pub left-last :
    (limit : ℕ) (texts : List (List ℕ)) (index offset number : ℕ) (text : List ℕ)
    → 0 < limit
    → slice_get texts index ≡ Some text
    → (offset ≡ 0) ⊎ (offset < length text)
    → length text - offset ≤ limit
    → frames_left limit texts index offset number ≡ frame_at limit text offset number
    ∷ frames_left limit texts (index + 1) 0 (next_number number)
unfolding frames_left
left-last limit texts index offset number text some at within short =
    let here = drop-at texts index text at in
    let short_rest : length (drop offset text) ≤ limit = omega (arith, length-drop offset text) in
    let closed : nat_le (length text) (offset + limit) ≡ true = grind (arith, nat_tests) in
    let all : take limit (drop offset text) ≡ drop offset text = take_all limit (drop offset text) short_rest in
    rw (here, pieces-one limit (drop offset text) some short_rest, closed, all, add-one index)
    (ap (λ ps. record { number = number; last = true; text = drop offset text } ∷ numbered (next_number number) ps)
    (start (drop (suc index) texts)))
  where
    start : (ts : List (List ℕ)) → all_pieces limit ts ≡ pieces_left limit 0 ts
    start [] = refl
    start (t ∷ ts) = refl

-- where frames are left there is a text
pub some-left : (limit : ℕ) (texts : List (List ℕ)) (index offset number : ℕ) (left : List FrameContent)
    → frames_left limit texts index offset number ≡ left → 0 < length left → slice_get texts index ≡ None → ⊥
some-left limit texts index offset number left is some none =
    let empty : length left ≡ 0 = ap length (sym is
    ∙ left-none limit texts index offset number (past-none texts index none)) in
    absurd (omega arith)

-- and where a text is there, frames are left
pub left-some :
    (limit : ℕ) (texts : List (List ℕ)) (index offset number : ℕ) (text : List ℕ)
    → 0 < limit
    → slice_get texts index ≡ Some text
    → (offset ≡ 0) ⊎ (offset < length text)
    → (rest : List FrameContent) × (frames_left limit texts index offset number ≡ frame_at limit text offset number
    ∷ rest)
left-some limit texts index offset number text some at within = go (cases_lt limit (length text - offset))
  where
    go :
        (limit < length text - offset) ⊎ (length text - offset ≤ limit)
        → (rest : List FrameContent) × (frames_left limit texts index offset number
        ≡ frame_at limit text offset number ∷ rest)
    go (inl more) = (
      frames_left limit texts index (offset + limit) (next_number number),
      left-more limit texts
          index offset number text some at more,
    )
    go (inr short) = (
      frames_left limit texts (index + 1) 0 (next_number number),
      left-last limit texts index offset
          number text some at within short,
    )

pub length-left :
    (limit : ℕ) (texts : List (List ℕ)) (index offset number : ℕ)
    → 0 < limit
    → index ≤ length texts
    → (offset ≡ 0) ⊎ (offset < length (get_or texts index []))
    → (index == length texts) ≡ (length (frames_left limit texts index offset number) == 0)
length-left limit texts index offset number some within offset_within = go (slice_get texts index) refl
  where
    go : (o : Option (List ℕ)) → slice_get texts index ≡ o
        → (index == length texts) ≡ (length (frames_left limit texts index offset number) == 0)
    go None none =
        let past = past-none texts index none in
        let empty : length (frames_left limit texts index offset number) ≡ 0 =
        ap length (left-none limit texts index offset number past) in
        let same : index ≡ length texts = omega arith in
        eq-eqb index (length texts) same ∙ sym (eq-eqb (length (frames_left limit texts index offset number)) 0 empty)
    go (Some text) at =
        let inside = within-at texts index text at in
        let first = left-some limit texts index offset number text some at
        (subst (λ t. (offset ≡ 0) ⊎ (offset < length t)) inside.1 offset_within) in
        let full : length (frames_left limit texts index offset number) ≡ suc (length first.0) = ap length first.1 in
        let below = inside.0 in
        ne_eqb index (length texts) (λ e. omega arith)
        ∙ sym (ne_eqb (length (frames_left limit texts index offset number)) 0 (λ e. omega arith))

pub zero_mod : (n : ℕ) → 0 < n → 0 % n ≡ 0
zero_mod n some = omega arith
