-- A text that is divided after some of its parts.
use Rattle.std.specs.Prelude.{◌≡◌, ◌≤◌, ℕ, List, length, take, ◌∷◌, drop}
use Rattle.std.specs.List.{flat_map}
use Rattle.lis_record_read.specs.FrontReading.{parts_following}

-- what a text begins with is a byte and so many of the parts after it, and the others follow
abbrev pub SplitsParts : ℕ → ℕ → List ℕ → List ℕ → List ℕ → Type 0
SplitsParts byte count text front rest =
    (count ≤ length (parts_following byte text))
    × (byte ∷ drop 1 front ≡ flat_map (λ part. byte ∷ part) (take count (parts_following byte text)))
    × (parts_following byte rest ≡ drop count (parts_following byte text))
