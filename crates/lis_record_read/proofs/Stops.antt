-- Where a search stops that looks for the end of a field or component, and what is before that place.
use Rattle.std.proofs.Common.{◌≡◌, ◌≢◌, ℕ, ◌+◌, ◌<◌, ◌==◌, ◌||◌, Bool, true, false, cond, List, [], ◌∷◌, ◌++◌, length}
use Rattle.std.proofs.Common.{◌≤◌, map, take, drop, None, Some, refl, sym, ap, ◌∙◌, arith, eq-eqb, take-append-drop}
use Rattle.std.specs.List.{All, position_from}
use Rattle.std.specs.Simd.Lanes.{mask_l}
use Rattle.std.specs.Int.Count.{count_trailing_zeros}
use Rattle.std.proofs.lemmas.List.Elements.{All-cons, All-nil, All-weaker}
use Rattle.std.proofs.lemmas.List.Splits.{slice_split_at}
use Rattle.lis_record_values.specs.Delimiters.{DelimiterBytes}
use Rattle.lis_record_values.specs.Shape.{plain_field}
use Rattle.lis_record_values.specs.Relation.{Lacks}
use Rattle.lis_record_read.specs.FrontReading.{parts_following, parts_of, repeats_of, symbols_of}
use Rattle.lis_record_read.specs.inside.FrontReading.{stops}
use Rattle.lis_record_read.proofs.FieldTexts.{plain_read, single_read}
use Rattle.lis_record_read.proofs.Joins.{Lacks-tests}
use Rattle.lis_bytes.proofs.SearchLemmas.{clean-before, found-chunk, found-within}

-- where none is found, each fails
pub all-fail : (f : ℕ → Bool) (i : ℕ) (xs : List ℕ) → position_from f i xs ≡ None → All (λ b. f b ≡ false) xs
all-fail f i [] e = All-nil (λ b. f b ≡ false)
all-fail f i (x ∷ xs) e = by (f x) refl e (all-fail f (i + 1) xs)
  where
    by : (test : Bool) → f x ≡ test → cond test (Some i) (position_from f (i + 1) xs) ≡ None
        → (position_from f (i + 1) xs ≡ None → All (λ b. f b ≡ false) xs) → All (λ b. f b ≡ false) (x ∷ xs)
    by true t e later = cc e
    by false t e later = All-cons (λ b. f b ≡ false) x xs t (later e)

-- a delimiter ends the first part
pub parts-marked : (mark : ℕ) (text : List ℕ) (end : ℕ) → Lacks mark (take end text) → (byte : ℕ) (rest : List ℕ)
    → drop end text ≡ byte ∷ rest → byte ≡ mark
    → parts_of mark text ≡ take end text ∷ parts_following mark (drop end text)
parts-marked mark text end lacks byte rest is same =
    ap (parts_of mark) (sym (take-append-drop end text) ∙ ap (λ (l : List ℕ). take end text ++ l) is)
    ∙ slice_split_at (λ b. b == mark) (take end text) byte rest (Lacks-tests mark (take end text) lacks)
    (eq-eqb byte mark same)
    ∙ ap (λ (l : List ℕ). take end text ∷ parts_following mark l) (sym is)

module _ (d : DelimiterBytes) (other : ℕ) where
  -- what no search stops at is none of the four
  pub record NoStop (b : ℕ) : Type 0 where
    pub field : b ≢ d.field
    pub repeat : b ≢ d.repeat
    pub component : b ≢ d.component
    pub apart : b ≢ other

  no_stop : (b : ℕ) → stops d other b ≡ false → NoStop b
  no_stop b none = by (b == d.field) (b == d.repeat) (b == d.component) (b == other) refl refl refl refl none
    where
      differs : (mark : ℕ) → (b == mark) ≡ false → b ≢ mark
      differs mark fails same = cc (fails, eq-eqb b mark same)

      by : (p q r s : Bool) → (b == d.field) ≡ p → (b == d.repeat) ≡ q → (b == d.component) ≡ r → (b == other) ≡ s
          → ((p || q) || (r || s)) ≡ false → NoStop b
      by true q r s pe qe re se none = cc none
      by false true r s pe qe re se none = cc none
      by false false true s pe qe re se none = cc none
      by false false false true pe qe re se none = cc none
      by false false false false pe qe re se none = record {
        field = differs d.field pe;
        repeat = differs d.repeat qe;
        component = differs d.component re;
        apart = differs other se;
      }

  -- where a search stops, by the bits of sixteen bytes
  module _ (text : List ℕ) (bits : ℕ) (room : 16 ≤ length text)
      (are : bits ≡ mask_l (map (stops d other) (take 16 text))) (some : bits ≡ 0 → ⊥) where
    set : mask_l (map (stops d other) (take 16 text)) ≡ 0 → ⊥
    set none = some (are ∙ none)

    pub stop-found : position_from (stops d other) 0 text ≡ Some (count_trailing_zeros 64 bits)
    stop-found =
        let at : 0 + count_trailing_zeros 64 bits ≡ count_trailing_zeros 64 bits = omega arith in
        rw (← are) at (found-chunk (stops d other) 0 16 text (omega arith) room set) ∙ ap Some at

    pub stop-near : count_trailing_zeros 64 bits < 16
    stop-near = rw (← are) at (found-within (stops d other) 16 text (omega arith) room set)

  -- the text before the place where a search stops
  module _ (text : List ℕ) (end : ℕ) (found : position_from (stops d other) 0 text ≡ Some end) where
    pub before : All NoStop (take end text)
    before = All-weaker (λ b. stops d other b ≡ false) NoStop no_stop (take end text)
        (all-fail (stops d other) 0 (take end text) (clean-before (stops d other) text end found).1)

    pub stop-first : (byte : ℕ) (rest : List ℕ) → drop end text ≡ byte ∷ rest → byte ≡ d.field
        → parts_of d.field text ≡ take end text ∷ parts_following d.field (drop end text)
    stop-first = parts-marked d.field text end
        (All-weaker NoStop (λ b. b ≢ d.field) (λ b is. is.field) (take end text) before)

    pub stop-single : repeats_of d (take end text) ≡ (symbols_of d (take end text) ∷ []) ∷ []
    stop-single = single_read d (take end text)
        (All-weaker NoStop (λ b. b ≢ d.repeat) (λ b is. is.repeat) (take end text) before)
        (All-weaker NoStop (λ b. b ≢ d.component) (λ b is. is.component) (take end text) before)

-- where a search stops at the escape byte too, the bytes before are symbols
pub stop-plain : (d : DelimiterBytes) (text : List ℕ) (end : ℕ)
    → position_from (stops d d.escape) 0 text ≡ Some end → repeats_of d (take end text) ≡ plain_field (take end text)
stop-plain d text end found =
    let none = before d d.escape text end found in
    plain_read d (take end text)
    (All-weaker (NoStop d d.escape) (λ b. b ≢ d.repeat) (λ b is. is.repeat) (take end text) none)
    (All-weaker (NoStop d d.escape) (λ b. b ≢ d.component) (λ b is. is.component) (take end text) none)
    (All-weaker (NoStop d d.escape) (λ b. b ≢ d.escape) (λ b is. is.apart) (take end text) none)
