-- Texts that a CR ends can be reported apart.
use Rattle.std.proofs.Common.{◌≡◌, ◌≢◌, ℕ, ◌≤◌, List, [], ◌∷◌, ◌++◌, length, true, refl, sym, ◌∙◌, ap, append_assoc}
use Rattle.std.proofs.Common.{arith}
use Rattle.std.specs.List.{AllByRecursion}
use Rattle.std.proofs.lemmas.List.Elements.{recursion_from_All}
use Rattle.std.proofs.lemmas.Grind.{flat_map-append}
use Rattle.lis_record_values.specs.Text.{is_text_byte, IsRecordText}
use Rattle.lis_message.specs.Stream.{line, ended, LacksReturn}

-- each text lacks CR
abbrev pub AllLack : List (List ℕ) → Type 0
AllLack = AllByRecursion LacksReturn

pub lacks_append : (xs ys : List ℕ) → LacksReturn xs → LacksReturn ys → LacksReturn (xs ++ ys)
lacks_append [] ys a b = b
lacks_append (x ∷ xs) ys a b = (a.0, lacks_append xs ys a.1 b)

pub all_lack_append : (xs ys : List (List ℕ)) → AllLack xs → AllLack ys → AllLack (xs ++ ys)
all_lack_append [] ys a b = b
all_lack_append (x ∷ xs) ys a b = (a.0, all_lack_append xs ys a.1 b)

-- a byte of a text is no CR
text_byte_no_return : (b : ℕ) → is_text_byte b ≡ true → b ≢ 13
unfolding is_text_byte
text_byte_no_return b t e = let h : is_text_byte 13 ≡ true = ap is_text_byte (sym e) ∙ t in cc

lacks_each : (xs : List ℕ) → AllByRecursion (λ b. is_text_byte b ≡ true) xs → LacksReturn xs
lacks_each [] a = tt
lacks_each (x ∷ xs) a = (text_byte_no_return x a.0, lacks_each xs a.1)

pub text_lacks : (xs : List ℕ) → IsRecordText xs → LacksReturn xs
text_lacks xs t = lacks_each xs (recursion_from_All (λ b. is_text_byte b ≡ true) xs t)

-- what is before the first CR is determined, and so is what follows it
pub line_one : (a b r s : List ℕ) → LacksReturn a → LacksReturn b → a ++ 13 ∷ r ≡ b ++ 13 ∷ s → (a ≡ b) × (r ≡ s)
line_one [] [] r s la lb e = (refl, cc)
line_one [] (y ∷ b) r s la lb e = let h : y ≡ 13 = cc in absurd (lb.0 h)
line_one (x ∷ a) [] r s la lb e = let h : x ≡ 13 = cc in absurd (la.0 h)
line_one (x ∷ a) (y ∷ b) r s la lb e =
    let heads : x ≡ y = cc in
    let tails : a ++ 13 ∷ r ≡ b ++ 13 ∷ s = cc in
    let both = line_one a b r s la.1 lb.1 tails in
    (let one : a ≡ b = both.0 in cc, both.1)

-- a list with a CR doesn't lack it
pub no_return_in : (a r h : List ℕ) → LacksReturn h → a ++ 13 ∷ r ≡ h → ⊥
no_return_in [] r [] l e = cc
no_return_in [] r (y ∷ h) l e = let same : y ≡ 13 = cc in l.0 same
no_return_in (x ∷ a) r [] l e = cc
no_return_in (x ∷ a) r (y ∷ h) l e = let tails : a ++ 13 ∷ r ≡ h = cc in no_return_in a r h l.1 tails

-- one line before the others
pub ended_cons : (t : List ℕ) (ts : List (List ℕ)) (r : List ℕ) → ended (t ∷ ts) ++ r ≡ t ++ 13 ∷ (ended ts ++ r)
ended_cons t ts r = simp append_assoc

pub ended_append : (xs ys : List (List ℕ)) → ended (xs ++ ys) ≡ ended xs ++ ended ys
ended_append xs ys = flat_map-append line xs ys

-- one line after the others
pub ended_snoc : (ts : List (List ℕ)) (t r : List ℕ) → ended (ts ++ t ∷ []) ++ r ≡ ended ts ++ t ++ 13 ∷ r
ended_snoc ts t r = simp (ended_append, append_assoc)

-- Lines that a stream begins with are among its own lines, and the rest is that of its own.
pub lines_front : (xs ys : List (List ℕ)) (r h : List ℕ) → AllLack xs → AllLack ys → LacksReturn h
    → ended xs ++ r ≡ ended ys ++ h
    → (zs : List (List ℕ)) × (ys ≡ xs ++ zs) × (r ≡ ended zs ++ h)
lines_front [] ys r h lx ly lh e = (ys, refl, e)
lines_front (x ∷ xs) [] r h lx ly lh e = absurd (no_return_in x (ended xs ++ r) h lh (sym (ended_cons x xs r) ∙ e))
lines_front (x ∷ xs) (y ∷ ys) r h lx ly lh e =
    let both = line_one x y (ended xs ++ r) (ended ys ++ h) lx.0 ly.0
    (sym (ended_cons x xs r) ∙ e ∙ ended_cons y ys h) in
    let below = lines_front xs ys r h lx.1 ly.1 lh both.1 in
    let one : x ≡ y = both.0 in
    let others : ys ≡ xs ++ below.0 = below.1 in
    (below.0, cc, below.2)

-- the lines of a stream, and what follows the last, are determined
pub lines_one : (xs ys : List (List ℕ)) (r h : List ℕ) → AllLack xs → AllLack ys → LacksReturn r → LacksReturn h
    → ended xs ++ r ≡ ended ys ++ h → (xs ≡ ys) × (r ≡ h)
lines_one [] [] r h lx ly lr lh e = (refl, e)
lines_one [] (y ∷ ys) r h lx ly lr lh e = absurd (no_return_in y (ended ys ++ h) r lr (sym (ended_cons y ys h) ∙ sym e))
lines_one (x ∷ xs) [] r h lx ly lr lh e = absurd (no_return_in x (ended xs ++ r) h lh (sym (ended_cons x xs r) ∙ e))
lines_one (x ∷ xs) (y ∷ ys) r h lx ly lr lh e =
    let both = line_one x y (ended xs ++ r) (ended ys ++ h) lx.0 ly.0
    (sym (ended_cons x xs r) ∙ e ∙ ended_cons y ys h) in
    let below = lines_one xs ys r h lx.1 ly.1 lr lh both.1 in
    let one : x ≡ y = both.0 in
    let others : xs ≡ ys = below.0 in
    (cc, below.1)

-- bytes that lack CR, before a line or its front
pub longer_front : (t more y s : List ℕ) → LacksReturn t → t ++ more ≡ y ++ 13 ∷ s → length t ≤ length y
longer_front [] more y s l e = omega arith
longer_front (x ∷ t) more [] s l e = let h : x ≡ 13 = cc in absurd (l.0 h)
longer_front (x ∷ t) more (y ∷ ys) s l e =
    let tails : t ++ more ≡ ys ++ 13 ∷ s = cc in
    let below = longer_front t more ys s l.1 tails in
    omega arith
