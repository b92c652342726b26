-- The frames of a session from a place on, as a sender's queue makes them.
use Rattle.std.specs.Prelude.{◌≡◌, ℕ, ◌<◌, ◌≤◌, ◌%◌, ◌⊎◌, List, [], ◌∷◌, ◌++◌, length, drop, None, slice_index_or, All}
use Rattle.lis_frame.specs.Frame.{FrameContent}
use Rattle.lis_frame.specs.Limit.{IsLimit}
use Rattle.lis_text.specs.LinkText.{longest_text, most_texts}
use Rattle.lis_text.specs.Text.{text_fault}
use Rattle.lis_frame.specs.Pieces.{Piece, pieces, all_pieces, numbered}

-- the pieces from an offset of the first of these texts on
abbrev pub pieces_left : ℕ → ℕ → List (List ℕ) → List Piece
pieces_left limit offset [] = []
pieces_left limit offset (text ∷ texts) = pieces limit (drop offset text) ++ all_pieces limit texts

-- the frames from a place on: a text, an offset in it and the number that is due
unfoldable pub frames_left : ℕ → List (List ℕ) → ℕ → ℕ → ℕ → List FrameContent
frames_left limit texts index offset number = numbered number (pieces_left limit offset (drop index texts))

-- such a place
pub record IsPlace (limit : ℕ) (texts : List (List ℕ)) (index offset number : ℕ) : Type 0 where
  pub is_limit : IsLimit limit
  pub sendable : All (λ text. text_fault longest_text text ≡ None) texts
  pub few : length texts ≤ most_texts
  pub index_within : index ≤ length texts
  pub number_in_range : number ≤ 7
  pub whole : offset % limit ≡ 0
  pub offset_within : (offset ≡ 0) ⊎ (offset < length (slice_index_or texts index []))
  pub at_end : index ≡ length texts → offset ≡ 0
