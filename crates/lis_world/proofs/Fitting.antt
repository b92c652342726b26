-- The texts of a session's frames never join to more than a link text.
use Rattle.std.proofs.Common.{◌≡◌, ℕ, zero, suc, ◌+◌, ◌-◌, ◌/◌, ◌≤◌, List, [], ◌∷◌, ◌++◌, length, take, drop, subst}
use Rattle.std.proofs.Common.{arith}
use Rattle.std.specs.Prelude.{All}
use Rattle.std.proofs.lemmas.List.{length-take, length-drop, length-append}
use Rattle.std.proofs.lemmas.List.Elements.{All-head, All-tail}
use Rattle.lis_text.specs.LinkText.{longest_text}
use Rattle.lis_text.specs.Text.{IsText}
use Rattle.lis_frame.specs.Frame.{FrameContent}
use Rattle.lis_frame.specs.Pieces.{Piece, pieces_from, pieces, all_pieces, next_number, numbered, session_frames}
use Rattle.lis_link.specs.Joining.{held_with, rest}

-- each frame's text fits after what is held then
abbrev FitsAll : List ℕ → List FrameContent → Type 0
FitsAll held [] = Unit {0}
FitsAll held (f ∷ fs) = (length held + length f.text ≤ longest_text) × FitsAll (held_with held f) fs

fits-pieces_from :
    (limit full n : ℕ) (held text : List ℕ) (later : List Piece)
    → length held + length text ≤ longest_text
    → ((m : ℕ) → FitsAll [] (numbered m later))
    → FitsAll held (numbered n (pieces_from limit full text ++ later))
fits-pieces_from limit zero n held text later short others = (short, others (next_number n))
fits-pieces_from limit (suc full) n held text later short others =
    let first = length-take limit text in
    let left = length-drop limit text in
    let joined = length-append held (take limit text) in (
      (omega arith),
      fits-pieces_from limit full (next_number n) (held ++ take limit text) (drop limit text) later (omega arith)
          others,
    )

fits-all_pieces : (limit n : ℕ) (texts : List (List ℕ)) → All (IsText longest_text) texts
    → FitsAll [] (numbered n (all_pieces limit texts))
unfolding pieces
fits-all_pieces limit n [] h = tt
fits-all_pieces limit n (text ∷ texts) h =
    let first = All-head (IsText longest_text) text texts h in
    let short : length text ≤ longest_text = first.short in
    fits-pieces_from limit ((length text - 1) / limit) n [] text (all_pieces limit texts) (omega arith)
    (λ m. fits-all_pieces limit m texts (All-tail (IsText longest_text) text texts h))

fits_at : (held : List ℕ) (before : List FrameContent) (f : FrameContent) (left : List FrameContent)
    → FitsAll held (before ++ f ∷ left) → length (rest held before) + length f.text ≤ longest_text
fits_at held [] f left h = h.0
fits_at held (x ∷ before) f left h = fits_at (held_with held x) before f left h.1

pub fits-session_frames :
    (limit : ℕ) (texts : List (List ℕ)) (before : List FrameContent) (f : FrameContent) (left : List FrameContent)
    → All (IsText longest_text) texts
    → session_frames limit texts ≡ before ++ f ∷ left
    → length (rest [] before) + length f.text ≤ longest_text
unfolding session_frames
fits-session_frames limit texts before f left h e =
    fits_at [] before f left (subst (FitsAll []) e (fits-all_pieces limit 1 texts h))
