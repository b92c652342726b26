-- What a sink took of bytes that went out in parts.
use Rattle.std.proofs.Common.{◌≡◌, ℕ, ◌+◌, ◌<◌, List, ◌++◌, length, take, Option, refl, ◌∙◌, length-append, arith}
use Rattle.std.proofs.lemmas.List.{drop_at, take_at, take-append-le}
use Rattle.std.specs.Io.KnownBytes.{Appends}
use Rattle.lis_port.proofs.Sinks.{Appends-then, take-split}

-- so many of these bytes are out, and not all of them
abbrev pub Part : Option (List ℕ) → Option (List ℕ) → List ℕ → ℕ → Type 0
Part old new bytes count = (count < length bytes) × Appends old new (take count bytes)

-- the sink failed in the first part
pub part_first : (old new : Option (List ℕ)) (xs ys : List ℕ) (count : ℕ) → Part old new xs count
    → Part old new (xs ++ ys) count
part_first old new xs ys count (short, taken) =
    (omega (arith, short, length-append xs ys), rw (take-append-le count xs ys (omega (arith, short))) taken)

-- the first part is out, and the sink failed after it
pub part_following : (old mid new : Option (List ℕ)) (xs ys : List ℕ) (count : ℕ) → Appends old mid xs
    → Part mid new ys count → Part old new (xs ++ ys) (length xs + count)
part_following old mid new xs ys count out (short, taken) =
    let front : take (length xs + count) (xs ++ ys) ≡ xs ++ take count ys =
    take-split (length xs) count (xs ++ ys) ∙ rw (take_at xs ys (length xs) refl, drop_at xs ys (length xs) refl)
    refl in
    (omega (arith, short, length-append xs ys), rw front (Appends-then old mid new xs (take count ys) out taken))
