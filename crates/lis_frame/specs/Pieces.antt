-- The frames of a link text and of a session's texts (LIS01-A2, 6.3 and 6.5).
use Rattle.std.specs.Prelude.{ℕ, zero, suc, ◌+◌, ◌-◌, ◌/◌, ◌%◌, Bool, true, false, List, [], ◌∷◌, ◌++◌, length, take}
use Rattle.std.specs.Prelude.{drop}
use Rattle.lis_frame.specs.Frame.{FrameContent}

-- a part of a text that goes in one frame, and whether it is the text's last
pub record Piece : Type 0 where
  pub bytes : List ℕ
  pub last : Bool

-- so many full pieces, and then the last one with what is left
abbrev pub pieces_from : ℕ → ℕ → List ℕ → List Piece
pieces_from limit zero text = record { bytes = text; last = true } ∷ []
pieces_from limit (suc full) text = record { bytes = take limit text; last = false }
    ∷ pieces_from limit full (drop limit text)

-- a text in pieces of `limit` bytes; the last may be shorter; the empty text is one empty piece
unfoldable pub pieces : ℕ → List ℕ → List Piece
pieces limit text = pieces_from limit ((length text - 1) / limit) text

-- the number after a number: 7 is followed by 0
abbrev pub next_number : ℕ → ℕ
next_number number = (number + 1) % 8

-- the pieces as frames, numbered from a number on
abbrev pub numbered : ℕ → List Piece → List FrameContent
numbered number [] = []
numbered number (piece ∷ pieces) =
    record { number = number; last = piece.last; text = piece.bytes } ∷ numbered (next_number number) pieces

-- the frames of one text, the first with this number
unfoldable pub text_frames : ℕ → List ℕ → ℕ → List FrameContent
text_frames limit text number = numbered number (pieces limit text)

abbrev pub all_pieces : ℕ → List (List ℕ) → List Piece
all_pieces limit [] = []
all_pieces limit (text ∷ texts) = pieces limit text ++ all_pieces limit texts

-- the frames of a session: those of each text in turn, numbered from 1 through the whole session
unfoldable pub session_frames : ℕ → List (List ℕ) → List FrameContent
session_frames limit texts = numbered 1 (all_pieces limit texts)
