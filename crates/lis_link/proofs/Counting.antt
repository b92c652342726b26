-- How many frames a session has at most.
use Rattle.std.proofs.Common.{◌≡◌, ℕ, zero, suc, ◌+◌, ◌*◌, ◌-◌, ◌/◌, ◌%◌, ◌<◌, ◌≤◌, List, [], ◌∷◌, length, drop, refl}
use Rattle.std.proofs.Common.{ap, arith}
use Rattle.std.specs.Prelude.{All}
use Rattle.std.proofs.Math.Nat.{mul-le-mul_right}
use Rattle.std.proofs.lemmas.List.{length-append}
use Rattle.std.proofs.lemmas.List.Elements.{All-head, All-tail}
use Rattle.lis_frame.specs.Limit.{IsLimit}
use Rattle.lis_text.specs.LinkText.{longest_text}
use Rattle.lis_text.specs.Text.{IsText}
use Rattle.lis_frame.specs.Pieces.{Piece, pieces_from, pieces, all_pieces, next_number, numbered, session_frames}

-- how many frames there are
length-numbered : (n : ℕ) (pieces : List Piece) → length (numbered n pieces) ≡ length pieces
length-numbered n [] = refl
length-numbered n (p ∷ ps) = ap suc (length-numbered (next_number n) ps)

length-pieces_from : (limit full : ℕ) (text : List ℕ) → length (pieces_from limit full text) ≡ full + 1
length-pieces_from limit zero text = omega arith
length-pieces_from limit (suc full) text =
    let later = length-pieces_from limit full (drop limit text) in
    omega arith

few_pieces : (limit : ℕ) (text : List ℕ) → IsLimit limit → length text ≤ longest_text → (length text - 1) / limit ≤ 4369
few_pieces limit text is_limit short =
    let q : ℕ = (length text - 1) / limit in
    let at_least = is_limit.at_least in
    let some : 0 < limit = omega arith in
    let more : 240 * q ≤ limit * q = mul-le-mul_right q at_least in
    let whole : limit * q + (length text - 1) % limit ≡ length text - 1 = omega arith in
    omega arith

length-all_pieces : (limit : ℕ) (texts : List (List ℕ)) → IsLimit limit → All (IsText longest_text) texts
    → length (all_pieces limit texts) ≤ 4370 * length texts
unfolding pieces
length-all_pieces limit [] is_limit h = omega arith
length-all_pieces limit (text ∷ texts) is_limit h =
    let first = All-head (IsText longest_text) text texts h in
    let later = length-all_pieces limit texts is_limit (All-tail (IsText longest_text) text texts h) in
    let few = few_pieces limit text is_limit first.short in
    let count = length-pieces_from limit ((length text - 1) / limit) text in
    let both = length-append (pieces_from limit ((length text - 1) / limit) text) (all_pieces limit texts) in
    omega arith

pub few-session_frames :
    (limit : ℕ) (texts : List (List ℕ)) → IsLimit limit → All (IsText longest_text) texts → length texts ≤ 65536
    → length (session_frames limit texts) < 4294967295
unfolding session_frames
few-session_frames limit texts is_limit h few =
    let count = length-all_pieces limit texts is_limit h in
    let same = length-numbered 1 (all_pieces limit texts) in
    omega arith
