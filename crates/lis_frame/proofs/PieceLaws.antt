-- The pieces of a text, one by one.
use Rattle.std.proofs.Common.{◌≡◌, ℕ, zero, suc, ◌+◌, ◌-◌, ◌*◌, ◌/◌, ◌%◌, ◌≤◌, ◌<◌, ◌⊎◌, inl, inr, true, false, List}
use Rattle.std.proofs.Common.{[], ◌∷◌, ◌++◌, None, Some, length, take, drop, refl, ap, sym, ◌∙◌, arith, length-drop}
use Rattle.std.proofs.Common.{length-take, take_all, append_assoc, add-one, zero-add}
use Rattle.std.specs.Prelude.{nat_le, slice_get}
use Rattle.std.proofs.lemmas.Bool.Decides.{nat_tests}
use Rattle.std.proofs.Math.Nat.{div-lt_iff_lt-mul, le-div_iff_mul-le, add-div_right, div-eq_of_lt, mod-add-div'}
use Rattle.lis_text.specs.Text.{IsText, text_fault}
use Rattle.lis_text.proofs.TextLemmas.{none-drop, none-take, text_fault-none}
use Rattle.lis_frame.specs.Frame.{FrameContent}
use Rattle.lis_frame.specs.Pieces.{pieces, pieces_from, next_number, text_frames}

-- any part of it that is short enough is a frame's text
pub IsText-piece :
    (limit longest offset n : ℕ) (text : List ℕ) → text_fault longest text ≡ None → n ≤ limit
    → IsText limit (take n (drop offset text))
IsText-piece limit longest offset n text none small =
    record {
      short = omega (arith, length-take n (drop offset text));
      clean = none-take n 0 (drop offset text) (none-drop offset 0 text (text_fault-none longest text none).clean);
    }

pub IsText-rest :
    (limit longest offset : ℕ) (text : List ℕ) → text_fault longest text ≡ None → length (drop offset text) ≤ limit
    → IsText limit (drop offset text)
IsText-rest limit longest offset text none short =
    record { short = short; clean = none-drop offset 0 text (text_fault-none longest text none).clean }

no_drop : (n : ℕ) (xs : List ℕ) → n ≡ 0 → drop n xs ≡ xs
no_drop zero xs e = refl
no_drop (suc n) xs e = cc

drop-nil : (n : ℕ) → drop {A = ℕ} n [] ≡ []
drop-nil zero = refl
drop-nil (suc n) = refl

pub drop-add : (m n : ℕ) (xs : List ℕ) → drop n (drop m xs) ≡ drop (m + n) xs
drop-add zero n xs = rw (zero-add n) refl
drop-add (suc m) n [] = drop-nil n ∙ sym (drop-nil (suc m + n))
drop-add (suc m) n (x ∷ xs) = let e : suc m + n ≡ suc (m + n) = omega arith in rw e (drop-add m n xs)

-- the full pieces, and the last
full_piece :
    (limit full i offset : ℕ) (text : List ℕ) → i < full → offset ≡ i * limit →
    slice_get (pieces_from limit full text) i ≡ Some (record { bytes = take limit (drop offset text); last = false })
full_piece limit zero i offset text h e = absurd (omega arith)
full_piece limit (suc full) zero offset text h e = rw (no_drop offset text (omega arith)) refl
full_piece limit (suc full) (suc i) offset text h e =
    let at : offset ≡ limit + i * limit = omega arith in
    rw (at, ← drop-add limit (i * limit) text) (full_piece limit full i (i * limit) (drop limit text) (omega arith)
    refl)

last_piece :
    (limit full offset : ℕ) (text : List ℕ) → offset ≡ full * limit →
    slice_get (pieces_from limit full text) full ≡ Some (record { bytes = drop offset text; last = true })
last_piece limit zero offset text e = rw (no_drop offset text (omega arith)) refl
last_piece limit (suc full) offset text e =
    let at : offset ≡ limit + full * limit = omega arith in
    rw (at, ← drop-add limit (full * limit) text) (last_piece limit full (full * limit) (drop limit text) refl)

-- a text that fits in one piece
pub pieces-one : (limit : ℕ) (text : List ℕ) → 0 < limit → length text ≤ limit
    → pieces limit text ≡ record { bytes = text; last = true } ∷ []
unfolding pieces
pieces-one limit text some short =
    let none : (length text - 1) / limit ≡ 0 = div-eq_of_lt (omega arith) in
    rw none refl

-- a longer one: its first piece, and those of what is left
pub pieces-more :
    (limit : ℕ) (text : List ℕ) → 0 < limit → limit < length text →
    pieces limit text ≡ record { bytes = take limit text; last = false } ∷ pieces limit (drop limit text)
unfolding pieces
pieces-more limit text some long =
    let one_more : (length text - 1) / limit ≡ suc ((length (drop limit text) - 1) / limit) =
    rw (length-drop limit text)
    (let left : length text - 1 ≡ length text - limit - 1 + limit = omega arith in
    rw left (add-div_right (length text - limit - 1) some ∙ add-one _)) in
    rw one_more refl

-- the piece at an offset, which is a multiple of the limit
pub piece_at :
    (limit offset : ℕ) (text : List ℕ) → 0 < limit → offset % limit ≡ 0 → (offset ≡ 0) ⊎ (offset < length text)
    → offset + limit < length text →
    slice_get (pieces limit text) (offset / limit)
    ≡ Some (record { bytes = take limit (drop offset text); last = false })
unfolding pieces
piece_at limit offset text some whole within more =
    let place : offset ≡ offset / limit * limit = omega (arith, mod-add-div' offset limit) in
    let next : (offset / limit + 1) * limit ≤ length text - 1 = omega arith in
    let below : offset / limit + 1 ≤ (length text - 1) / limit = (le-div_iff_mul-le some).1 next in
    full_piece limit _ (offset / limit) offset text (omega arith) place

pub last_piece_at :
    (limit offset : ℕ) (text : List ℕ) → 0 < limit → offset % limit ≡ 0 → (offset ≡ 0) ⊎ (offset < length text)
    → length text ≤ offset + limit →
    slice_get (pieces limit text) (offset / limit) ≡ Some (record { bytes = drop offset text; last = true })
unfolding pieces
last_piece_at limit offset text some whole within ends =
    let place : offset ≡ offset / limit * limit = omega (arith, mod-add-div' offset limit) in
    let low : offset / limit * limit ≤ length text - 1 = elim within [ inl e ↦ omega arith | inr h ↦ omega arith ] in
    let high : length text - 1 < (offset / limit + 1) * limit = omega arith in
    let at_most : (length text - 1) / limit < offset / limit + 1 = (div-lt_iff_lt-mul some).1 high in
    let at_least : offset / limit ≤ (length text - 1) / limit = (le-div_iff_mul-le some).1 low in
    let same : (length text - 1) / limit ≡ offset / limit = omega arith in
    rw same (last_piece limit (offset / limit) offset text place)

-- the same with the numbers
text_frames-last :
    (limit : ℕ) (text : List ℕ) (number : ℕ) → 0 < limit → length text ≤ limit →
    text_frames limit text number ≡ record { number = number; last = true; text = text } ∷ []
unfolding text_frames
text_frames-last limit text number some short = rw (pieces-one limit text some short) refl

text_frames-more :
    (limit : ℕ) (text : List ℕ) (number : ℕ) → 0 < limit → limit < length text →
    text_frames limit text number
    ≡ record { number = number; last = false; text = take limit text }
    ∷ text_frames limit (drop limit text) (next_number number)
unfolding text_frames
text_frames-more limit text number some long = rw (pieces-more limit text some long) refl

-- a loop over the frames of a text, at a frame that is the piece at the offset
module _ (limit offset number : ℕ) (text : List ℕ) (frame : FrameContent) (frames whole : List FrameContent)
    (some : 0 < limit)
    (is_piece : frame ≡ record {
      number = number;
      last = nat_le (length text) (offset + limit);
      text = take limit (drop offset text);
    })
    (so_far : frames ++ text_frames limit (drop offset text) number ≡ whole) where
  pub frames-last : frame.last ≡ true → frames ++ frame ∷ [] ≡ whole
  frames-last last =
      let ends : nat_le (length text) (offset + limit) ≡ true =
      sym (ap (λ (f : FrameContent). f.last) is_piece) ∙ last in
      let short : length (drop offset text) ≤ limit = rw (length-drop offset text) (grind (arith, nat_tests)) in
      let all : take limit (drop offset text) ≡ drop offset text = take_all limit (drop offset text) short in
      rw (is_piece, ends, all, ← text_frames-last limit (drop offset text) number some short) so_far

  pub frames-more :
      frame.last ≡ false → (frames ++ frame ∷ []) ++ text_frames limit (drop (offset + limit) text)
      (next_number number) ≡ whole
  frames-more last =
      let ends : nat_le (length text) (offset + limit) ≡ false =
      sym (ap (λ (f : FrameContent). f.last) is_piece) ∙ last in
      let long : limit < length (drop offset text) = rw (length-drop offset text) (grind (arith, nat_tests)) in
      rw (
        append_assoc frames (frame ∷ []) (text_frames limit (drop (offset + limit) text) (next_number number)),
        is_piece,
        ends,
        ← drop-add offset limit text,
        ← text_frames-more limit (drop offset text) number some long,
      )
      so_far

  pub frames-within : frame.last ≡ false → offset + limit < length text
  frames-within last =
      let ends : nat_le (length text) (offset + limit) ≡ false =
      sym (ap (λ (f : FrameContent). f.last) is_piece) ∙ last in
      grind (arith, nat_tests)
