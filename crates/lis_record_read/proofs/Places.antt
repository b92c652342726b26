-- The first place of a delimiter, as the code finds it.
use Rattle.std.specs.Option.{is_some}
use Rattle.lis_record_values.specs.declared.symbols.Sym.{Sym}
use Rattle.hex.specs.Hex.{decode_of}
use Rattle.std.proofs.lemmas.Bool.{lt-ltb}
use Rattle.std.proofs.Common.{◌≡◌, ◌≢◌, ℕ, zero, suc, ◌+◌, ◌-◌, ◌<◌, ◌≤◌, ◌==◌, slice_get}
use Rattle.std.proofs.Common.{sub-one, true, false, ltb, List, [], ◌∷◌, ◌++◌, length, take, drop, Option}
use Rattle.std.proofs.Common.{Some, None, option_map, unwrap_or, refl, sym, ap, ◌∙◌, arith, inl, inr}
use Rattle.std.specs.List.{position, position_or_len}
use Rattle.std.proofs.lemmas.List.{drop-drop, drop_all, drop_more, nil_from_length, take_all, take_rest}
use Rattle.std.proofs.lemmas.List.Splits.{slice_split_first, slice_split_none}
use Rattle.std.proofs.lemmas.List.Sums.{fails_before_first}
use Rattle.lis_record_values.specs.declared.symbols.Sym.TheVariants.{Char}
use Rattle.lis_record_values.specs.Delimiters.{DelimiterBytes}
use Rattle.lis_record_values.specs.Escapes.{escape_of, letter_symbol, raw_symbols}
use Rattle.lis_record_read.specs.FrontReading.{ArePairs, digit_symbols, escape_at, parts_following, parts_of}
use Rattle.lis_record_read.specs.FrontReading.{symbols_after}
use Rattle.lis_record_read.specs.FrontReading.{symbols_left, symbols_of}
use Rattle.lis_record_values.specs.Shape.{Symbols}
use Rattle.lis_record_values.proofs.FirstFaults.{ltb_decides, test_false}
use Rattle.std.proofs.Common.{get_or, eq-eqb}
use Rattle.lis_record_values.specs.Relation.{Lacks}
use Rattle.lis_record_read.proofs.Components.{symbols_of-escape, symbols_of-lone, symbols_of-plain}
use Rattle.lis_record_read.proofs.Pairs.{ArePairs-none, digit_symbols-none, raw_of_others, raw_of_pairs}

module _ (mark : ℕ) (text : List ℕ) where
  first : ℕ
  first = position_or_len (λ b. b == mark) text

  -- what the place that is found, or that is missing, says
  pub record IsFound (end : ℕ) : Type 0 where
    pub is_first : position_or_len (λ b. b == mark) text ≡ end
    pub within : end < length text

  pub IsFound-position : (end : ℕ) → position (λ b. b == mark) text ≡ Some end → IsFound end
  IsFound-position end h =
      elim (ltb_decides (position_or_len (λ b. b == mark) text) (length text)) [
        | inl below ↦
            let g : Some (position_or_len (λ b. b == mark) text) ≡ Some end = rw below.0 at h in
            let e : position_or_len (λ b. b == mark) text ≡ end = cc in
            record { is_first = e; within = rw e at below.1 }
        | inr past ↦ let g : None ≡ Some end = rw past.0 at h in cc
      ]

  pub past-position : position (λ b. b == mark) text ≡ None → length text ≤ position_or_len (λ b. b == mark) text
  past-position h =
      elim (ltb_decides (position_or_len (λ b. b == mark) text) (length text)) [
        | inl below ↦ let g : Some (position_or_len (λ b. b == mark) text) ≡ None = rw below.0 at h in cc
        | inr past ↦ past.1
      ]

  -- the parts of a text: what is before the first delimiter, and those after it
  parts_of-some : (end : ℕ) → IsFound end → parts_of mark text ≡ take end text ∷ parts_following mark (drop end text)
  parts_of-some end h =
      let below : position_or_len (λ b. b == mark) text < length text = let w = h.within in omega (arith, h.is_first) in
      let following : parts_following mark (drop end text) ≡ parts_of mark (drop (end + 1) text) =
      ap (parts_following mark) (drop_more text end 0 h.within) in
      rw h.is_first at (slice_split_first (λ b. b == mark) text 0 below)
      ∙ ap (λ (l : List (List ℕ)). take end text ∷ l) (sym following)

  parts_of-none : length text ≤ position_or_len (λ b. b == mark) text
      → parts_of mark text ≡ take (length text) text ∷ parts_following mark (drop (length text) text)
  parts_of-none h =
      rw (take_all (length text) text (omega arith), drop_all (length text) text (omega arith))
      (slice_split_none (λ b. b == mark) text (λ k d below. fails_before_first (λ b. b == mark) text k d
      (omega (arith, h))))

  pub parts_of-first : (end : ℕ) → end ≡ unwrap_or (position (λ b. b == mark) text) (length text)
      → parts_of mark text ≡ take end text ∷ parts_following mark (drop end text)
  parts_of-first end h = go (position (λ b. b == mark) text) refl
    where
      go : (o : Option ℕ) → position (λ b. b == mark) text ≡ o
          → parts_of mark text ≡ take end text ∷ parts_following mark (drop end text)
      go None e = rw (h ∙ ap (λ (o : Option ℕ). unwrap_or o (length text)) e) (parts_of-none (past-position e))
      go (Some n) e = rw (h ∙ ap (λ (o : Option ℕ). unwrap_or o (length text)) e)
          (parts_of-some n (IsFound-position n e))

-- the parts after the first one
pub slice_get-following : {A : Type 0} (parts others : List A) (part : A) (place : ℕ) → parts ≡ part ∷ others
    → 0 < place
    → slice_get parts place ≡ slice_get others (place - 1)
slice_get-following parts others part zero is some = absurd (omega arith)
slice_get-following parts others part (suc place) is some = rw (is, sub-one) refl

pub part_step : (mark : ℕ) (parts : List (List ℕ)) (part others more : List ℕ) (delimiter left : ℕ)
    → parts ≡ part ∷ parts_following mark others → others ≡ delimiter ∷ more → 0 < left
    → slice_get parts left ≡ slice_get (parts_of mark more) (left - 1)
part_step mark parts part others more delimiter left is following some =
    slice_get-following parts (parts_following mark others) part left is some
    ∙ ap (λ (l : List ℕ). slice_get (parts_following mark l) (left - 1)) following

pub part_past : (mark : ℕ) (parts : List (List ℕ)) (part others : List ℕ) (left : ℕ)
    → parts ≡ part ∷ parts_following mark others → length others ≡ 0 → 0 < left
    → slice_get parts left ≡ None
part_past mark parts part others left is none some =
    slice_get-following parts (parts_following mark others) part left is some
    ∙ ap (λ (l : List ℕ). slice_get (parts_following mark l) (left - 1)) (nil_from_length others none)

pub part_first : (parts others : List (List ℕ)) (part : List ℕ) → parts ≡ part ∷ others → Some part ≡ slice_get parts 0
part_first parts others part is = rw is refl

-- ---- what is between two escape bytes

pub escape_of-empty : (d : DelimiterBytes) (inside : List ℕ) → length inside ≡ 0 → escape_of d inside ≡ None
unfolding escape_of
escape_of-empty d [] h = refl
escape_of-empty d (letter ∷ digits) h = absurd (omega arith)

pub escape_of-letter : (d : DelimiterBytes) (inside digits : List ℕ) (letter : ℕ) → inside ≡ letter ∷ digits
    → length digits ≡ 0
    → escape_of d inside ≡ option_map (λ (symbol : Sym). symbol ∷ []) (letter_symbol d letter)
unfolding escape_of
escape_of-letter d inside [] letter e h = rw e refl
escape_of-letter d inside (digit ∷ digits) letter e h = absurd (omega arith)

pub escape_of-digits : (d : DelimiterBytes) (inside digits : List ℕ) (letter : ℕ) → inside ≡ letter ∷ digits
    → length digits ≢ 0 → letter ≡ 88
    → escape_of d inside ≡ raw_symbols (decode_of digits)
unfolding escape_of
escape_of-digits d inside [] letter e h x = absurd (h refl)
escape_of-digits d inside (digit ∷ digits) letter e h x = rw (e, x) refl

pub escape_of-other : (d : DelimiterBytes) (inside digits : List ℕ) (letter : ℕ) → inside ≡ letter ∷ digits
    → length digits ≢ 0 → letter ≢ 88
    → escape_of d inside ≡ None
unfolding escape_of
escape_of-other d inside [] letter e h x = absurd (h refl)
escape_of-other d inside (digit ∷ digits) letter e h x = rw (e, test_false letter 88 x) refl

-- ---- what an escape byte begins

pub escape_at-none : (d : DelimiterBytes) (text : List ℕ) → position (λ b. b == d.escape) text ≡ None
    → escape_at d text ≡ None
unfolding escape_at
escape_at-none d text h =
    elim (ltb_decides (position_or_len (λ b. b == d.escape) text) (length text)) [
      | inl below ↦ let g : Some (position_or_len (λ b. b == d.escape) text) ≡ None = rw below.0 at h in cc
      | inr past ↦ rw past.0 refl
    ]

pub escape_at-found : (d : DelimiterBytes) (text : List ℕ) (end : ℕ) → position (λ b. b == d.escape) text ≡ Some end
    → escape_at d text ≡ option_map (λ (symbols : Symbols). (symbols, end + 1)) (escape_of d (take end text))
unfolding escape_at
escape_at-found d text end h =
    let found = IsFound-position d.escape text end h in
    let test : ltb end (length text) ≡ true = lt-ltb end (length text) found.within in
    rw (found.is_first, test) refl

-- no delimiter follows
pub symbols_of-open : (d : DelimiterBytes) (text : List ℕ) → position (λ b. b == d.escape) text ≡ None
    → symbols_of d (d.escape ∷ text) ≡ Char d.escape ∷ symbols_of d text
symbols_of-open d text h = symbols_of-lone d text (escape_at-none d text h)

-- what is before the next one is no escape
pub symbols_of-no_escape : (d : DelimiterBytes) (text : List ℕ) (end : ℕ)
    → position (λ b. b == d.escape) text ≡ Some end → escape_of d (take end text) ≡ None
    → symbols_of d (d.escape ∷ text) ≡ Char d.escape ∷ symbols_of d text
symbols_of-no_escape d text end h none = symbols_of-lone d text
    (escape_at-found d text end h ∙ ap (option_map (λ (symbols : Symbols). (symbols, end + 1))) none)

-- it is one
pub symbols_of-closed : (d : DelimiterBytes) (text : List ℕ) (end : ℕ) (meant : Symbols)
    → position (λ b. b == d.escape) text ≡ Some end → escape_of d (take end text) ≡ Some meant
    → symbols_of d (d.escape ∷ text) ≡ meant ++ symbols_of d (drop (end + 1) text)
symbols_of-closed d text end meant h some =
    symbols_of-escape d text (meant, end + 1) (escape_at-found d text end h
    ∙ ap (option_map (λ (symbols : Symbols). (symbols, end + 1))) some)

-- ---- the first symbol of a text

pub symbols_left-none : (d : DelimiterBytes) (text : List ℕ) → symbols_left d [] text ≡ symbols_of d text
symbols_left-none d text = ap (λ (l : Symbols). l ++ symbols_of d text) digit_symbols-none

lone_first : (d : DelimiterBytes) (byte : ℕ) (text rest : List ℕ) → symbols_of d text ≡ Char byte ∷ symbols_of d rest
    → symbols_of d text ≡ Char byte ∷ symbols_left d [] rest
lone_first d byte text rest h = h ∙ ap (λ (l : Symbols). Char byte ∷ l) (sym (symbols_left-none d rest))

pub symbols_of-nil : (d : DelimiterBytes) (text : List ℕ) → length text ≡ 0 → symbols_of d text ≡ []
unfolding symbols_after
symbols_of-nil d [] h = refl
symbols_of-nil d (b ∷ bs) h = absurd (omega arith)

pub plain_first : (d : DelimiterBytes) (byte : ℕ) (text rest : List ℕ) → text ≡ byte ∷ rest → byte ≢ d.escape
    → symbols_of d text ≡ Char byte ∷ symbols_left d [] rest
plain_first d byte text rest whole other = ap (symbols_of d) whole
    ∙ lone_first d byte (byte ∷ rest) rest (symbols_of-plain d byte rest other)

module _ (d : DelimiterBytes) (escape : ℕ) (is : escape ≡ d.escape) (text : List ℕ) where
  -- no other escape byte follows
  pub open_first : position (λ b. b == escape) text ≡ None
      → symbols_of d (d.escape ∷ text) ≡ Char escape ∷ symbols_left d [] text
  open_first h = ap (λ (b : ℕ). symbols_of d (b ∷ text)) (sym is)
      ∙ lone_first d escape (escape ∷ text) text (rw is (symbols_of-open d text (rw is at h)))

  -- what is before the next one is no escape
  pub other_first : (end : ℕ) → position (λ b. b == escape) text ≡ Some end → escape_of d (take end text) ≡ None
      → symbols_of d (d.escape ∷ text) ≡ Char escape ∷ symbols_left d [] text
  other_first end h none = ap (λ (b : ℕ). symbols_of d (b ∷ text)) (sym is)
      ∙ lone_first d escape (escape ∷ text) text (rw is (symbols_of-no_escape d text end (rw is at h) none))

  -- it is one
  pub escape_first : (end : ℕ) (back digits : List ℕ) (symbol : Sym) → position (λ b. b == escape) text ≡ Some end
      → escape_of d (take end text) ≡ Some (symbol ∷ digit_symbols digits)
      → back ≡ drop end text → symbols_of d (d.escape ∷ text) ≡ symbol
      ∷ symbols_left d digits (take (length back - 1) (drop 1 back))
  escape_first end back digits symbol h means following =
      let rest : take (length back - 1) (drop 1 back) ≡ drop (end + 1) text =
      take_rest back 1 ∙ (ap (drop 1) following ∙ drop-drop 1 end text) in
      symbols_of-closed d text end (symbol ∷ digit_symbols digits) (rw is at h) means
      ∙ ap (λ (l : List ℕ). symbol ∷ symbols_left d digits l) (sym rest)

-- ---- what an escape means

module _ (d : DelimiterBytes) (inside digits : List ℕ) (letter : ℕ) (whole : inside ≡ letter ∷ digits) where
  pub letter_meant : (symbol : Sym) → length digits ≡ 0 → letter_symbol d letter ≡ Some symbol
      → (escape_of d inside ≡ Some (symbol ∷ digit_symbols [])) × ArePairs []
  letter_meant symbol none is =
      let add = λ (s : Sym). s ∷ [] in (
        escape_of-letter d inside digits letter whole none ∙ ap (option_map add) is
            ∙ ap (λ (l : Symbols). Some (symbol ∷ l)) (sym digit_symbols-none),
        ArePairs-none,
      )

  pub no_letter_meant : length digits ≡ 0 → letter_symbol d letter ≡ None → escape_of d inside ≡ None
  no_letter_meant none is = let add = λ (s : Sym). s ∷ [] in
      escape_of-letter d inside digits letter whole none ∙ ap (option_map add) is

  pub others_meant : length digits ≢ 0 → letter ≡ 88 → is_some (raw_symbols (decode_of digits)) ≡ false
      → escape_of d inside ≡ None
  others_meant some is none = escape_of-digits d inside digits letter whole some is ∙ raw_of_others digits none

-- X and pairs of digits
pub meant_pairs : (d : DelimiterBytes) (letter : ℕ) (digits : List ℕ) → letter ≡ 88 → length digits ≢ 0
    → ArePairs digits → escape_of d (letter ∷ digits) ≡ Some (digit_symbols digits)
meant_pairs d letter digits is some pairs =
    escape_of-digits d (letter ∷ digits) digits letter refl some is ∙ raw_of_pairs digits pairs

-- ---- where the byte is found nowhere

pub is_some_none : {X : Type 0} (o : Option X) → is_some o ≡ false → o ≡ None
is_some_none None h = refl
is_some_none (Some x) h = cc h

pub Lacks-position : (mark : ℕ) (text : List ℕ) → position (λ b. b == mark) text ≡ None → Lacks mark text
Lacks-position mark text h = λ k e below same.
    let past = past-position mark text h in
    let no : (get_or text k e == mark) ≡ false = fails_before_first (λ b. b == mark) text k e (omega (arith, past)) in
    let yes : (get_or text k e == mark) ≡ true = eq-eqb (get_or text k e) mark same in
    cc (no, yes)
