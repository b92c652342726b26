-- Fields that are taken one after another, and fields that are taken as they are.
use Rattle.std.proofs.Common.{◌≡◌, ◌≢◌, ℕ, suc, ◌+◌, List, [], ◌∷◌, ◌++◌, length, map, drop, None, Some, refl}
use Rattle.std.proofs.Common.{sym, ap, ◌∙◌, arith, append-nil, eqb, true, false, Bool, cond, not, ◌==◌, Option}
use Rattle.std.proofs.Common.{unwrap_or}
use Rattle.std.proofs.lemmas.Bool.{eqb-true}
use Rattle.std.proofs.lemmas.List.{drop_all}
use Rattle.std.proofs.lemmas.List.Splits.{slice_split_none}
use Rattle.std.specs.List.{position, position_or_len}
use Rattle.std.proofs.lemmas.List.Elements.{All-head, All-tail}
use Rattle.lis_record_values.specs.Delimiters.{DelimiterBytes}
use Rattle.lis_record_values.specs.Text.{trailing_byte}
use Rattle.lis_record_values.specs.Shape.{Symbols, plain_component, plain_field}
use Rattle.lis_record_values.specs.declared.symbols.Sym.TheVariants.{Char}
use Rattle.lis_record_read.specs.FrontReading.{components_of, parts_following, parts_of, repeats_of, symbols_of}
use Rattle.lis_record_values.specs.Relation.{Lacks}
use Rattle.lis_record_read.proofs.Components.{symbols_of-plain}
use Rattle.lis_record_read.proofs.Joins.{Lacks-tests, parts_of-apart}
use Rattle.lis_record_read.proofs.Places.{IsFound-position, symbols_of-nil}

-- the first part of a text doesn't hold the delimiter
pub Lacks-first : (mark : ℕ) (text part rest : List ℕ) → parts_of mark text ≡ part ∷ parts_following mark rest
    → Lacks mark part
Lacks-first mark text part rest is = All-head (Lacks mark) part (parts_following mark rest)
    (rw is at (parts_of-apart mark text))

-- what a text without another first byte begins with
pub trailing-none : (mark byte : ℕ) (bytes text : List ℕ) → text ≡ byte ∷ bytes → trailing_byte mark text ≡ None
    → byte ≡ mark
trailing-none mark byte bytes text is none = by (eqb byte mark) refl (rw is at none)
  where
    by : (test : Bool) → eqb byte mark ≡ test → cond test None (Some byte) ≡ None → byte ≡ mark
    by true t none = eqb-true byte mark t
    by false t none = cc none

-- after a part is the delimiter, or nothing
following_first : (mark : ℕ) (text : List ℕ) → trailing_byte mark (drop (position_or_len (λ b. b == mark) text) text)
    ≡ None
following_first mark [] = refl
following_first mark (x ∷ xs) = by (eqb x mark) refl (following_first mark xs)
  where
    by : (test : Bool) → eqb x mark ≡ test → trailing_byte mark (drop (position_or_len (λ b. b == mark) xs) xs) ≡ None
        → trailing_byte mark (drop (cond (not test) (1 + position_or_len (λ b. b == mark) xs) 0) (x ∷ xs)) ≡ None
    by true t later = rw t refl
    by false t later =
        let more : 1 + position_or_len (λ b. b == mark) xs ≡ suc (position_or_len (λ b. b == mark) xs) = omega arith in
        rw more later

pub part_following-mark : (mark : ℕ) (text : List ℕ) (end : ℕ)
    → end ≡ unwrap_or (position (λ b. b == mark) text) (length text)
    → trailing_byte mark (drop end text) ≡ None
part_following-mark mark text end is = go (position (λ b. b == mark) text) refl
  where
    go : (o : Option ℕ) → position (λ b. b == mark) text ≡ o → trailing_byte mark (drop end text) ≡ None
    go None e = rw (is, e, drop_all (length text) text (omega arith)) refl
    go (Some n) e =
        let at : end ≡ position_or_len (λ b. b == mark) text =
        rw (is, e) (sym (IsFound-position mark text n e).is_first) in
        rw at (following_first mark text)

-- a text without the delimiter is one part
pub whole_part : (mark : ℕ) (text : List ℕ) → Lacks mark text → parts_of mark text ≡ text ∷ []
whole_part mark text free = slice_split_none (λ b. b == mark) text (Lacks-tests mark text free)

-- ---- a field that is one component without an escape byte
module _ (d : DelimiterBytes) where
  -- the bytes before an escape byte are the first symbols
  pub symbols_of-front : (front rest : List ℕ) → Lacks d.escape front
      → symbols_of d (front ++ rest) ≡ plain_component front ++ symbols_of d rest
  symbols_of-front [] rest free = refl
  symbols_of-front (b ∷ bs) rest free =
      let P : ℕ → Type 0 = λ c. c ≢ d.escape in
      symbols_of-plain d b (bs ++ rest) (All-head P b bs free)
      ∙ ap (λ (l : Symbols). Char b ∷ l) (symbols_of-front bs rest (All-tail P b bs free))

  pub plain_symbols : (text : List ℕ) → Lacks d.escape text → symbols_of d text ≡ plain_component text
  plain_symbols text free =
      ap (symbols_of d) (sym (append-nil text)) ∙ symbols_of-front text [] free
      ∙ ap (λ (l : Symbols). plain_component text ++ l) (symbols_of-nil d [] refl)
      ∙ append-nil (plain_component text)

  -- a field of one component
  pub single_read : (text : List ℕ) → Lacks d.repeat text → Lacks d.component text
      → repeats_of d text ≡ (symbols_of d text ∷ []) ∷ []
  single_read text repeat component =
      ap (map (components_of d)) (whole_part d.repeat text repeat)
      ∙ ap (λ (parts : List (List ℕ)). map (symbols_of d) parts ∷ []) (whole_part d.component text component)

  pub plain_read : (text : List ℕ) → Lacks d.repeat text → Lacks d.component text → Lacks d.escape text
      → repeats_of d text ≡ plain_field text
  plain_read text repeat component escape =
      single_read text repeat component ∙ ap (λ (s : Symbols). (s ∷ []) ∷ []) (plain_symbols text escape)
