-- Joining, a list of frames at a time, and joining the frames that a session's texts were split into.
use Rattle.std.proofs.Common.{◌≡◌, ℕ, zero, suc, ◌-◌, ◌/◌, List, [], ◌∷◌, ◌++◌, take, drop, length, refl, sym, ap, ◌∙◌}
use Rattle.std.proofs.Common.{append_assoc}
use Rattle.std.specs.Option.{option_to_list}
use Rattle.std.proofs.lemmas.List.{take-append-drop}
use Rattle.lis_frame.specs.Frame.{FrameContent}
use Rattle.lis_frame.specs.Pieces.{Piece, pieces_from, pieces, all_pieces, numbered, next_number, session_frames}
use Rattle.lis_link.specs.Joining.{held_with, completed, groups, rest}

pub rest-append : (held : List ℕ) (xs ys : List FrameContent) → rest held (xs ++ ys) ≡ rest (rest held xs) ys
rest-append held [] ys = refl
rest-append held (x ∷ xs) ys = rest-append (held_with held x) xs ys

pub groups-append : (held : List ℕ) (xs ys : List FrameContent)
    → groups held (xs ++ ys) ≡ groups held xs ++ groups (rest held xs) ys
groups-append held [] ys = refl
groups-append held (x ∷ xs) ys =
    ap (λ t. option_to_list (completed held x) ++ t) (groups-append (held_with held x) xs ys)
    ∙ sym (append_assoc (option_to_list (completed held x)) (groups (held_with held x) xs)
    (groups (rest (held_with held x) xs) ys))

-- the frames of one text complete it, whatever their numbers are
groups-pieces :
    (limit full number : ℕ) (held text : List ℕ) (later : List Piece)
    → (n : ℕ) × (groups held (numbered number (pieces_from limit full text ++ later)) ≡ (held ++ text)
    ∷ groups [] (numbered n later))
groups-pieces limit zero number held text later = (next_number number, refl)
groups-pieces limit (suc full) number held text later =
    let later_is = groups-pieces limit full (next_number number) (held ++ take limit text) (drop limit text) later in (
      later_is.0,
      later_is.1
          ∙ ap (λ t. t ∷ groups [] (numbered later_is.0 later))
          (append_assoc held (take limit text) (drop limit text) ∙ ap (λ t. held ++ t) (take-append-drop limit text)),
    )

groups-all_pieces : (limit number : ℕ) (texts : List (List ℕ))
    → groups [] (numbered number (all_pieces limit texts)) ≡ texts
unfolding pieces
groups-all_pieces limit number [] = refl
groups-all_pieces limit number (text ∷ texts) =
    let first = groups-pieces limit ((length text - 1) / limit) number [] text (all_pieces limit texts) in
    first.1 ∙ ap (λ t. text ∷ t) (groups-all_pieces limit first.0 texts)

-- the frames of a session join to its texts
pub groups-session_frames : (limit : ℕ) (texts : List (List ℕ)) → groups [] (session_frames limit texts) ≡ texts
unfolding session_frames
groups-session_frames limit texts = groups-all_pieces limit 1 texts
