-- The first component of a field's text, by the first delimiters in a text that begins with it.
use Rattle.std.proofs.Common.{◌≡◌, ◌≢◌, ℕ, ◌+◌, ◌<◌, ◌≤◌, ◌==◌, Bool, List, [], ◌∷◌, ◌++◌, length}
use Rattle.std.proofs.Common.{take, drop, map, None, Some, refl, sym, ap, subst, ◌∙◌, arith, eq-eqb, take-append-drop}
use Rattle.std.proofs.Common.{append_assoc, append-nil, length-append, length-take, IsTrue}
use Rattle.std.specs.List.{All, position, position_from}
use Rattle.std.specs.Int.Count.{count_trailing_zeros}
use Rattle.std.specs.Simd.Lanes.{mask_l}
use Rattle.std.proofs.lemmas.Iterator.Adapters.{position_from-zero}
use Rattle.std.proofs.lemmas.List.{drop-append-le, drop_all, take_all, take-append-le, take-take}
use Rattle.std.proofs.lemmas.List.Elements.{All-append, All-cons, All-take, All-weaker}
use Rattle.lis_record_values.specs.Delimiters.{DelimiterBytes, IsDelimiters}
use Rattle.lis_record_values.specs.Shape.{Components, Symbols, plain_component}
use Rattle.lis_record_values.specs.Text.{trailing_byte}
use Rattle.lis_record_values.specs.Relation.{Lacks}
use Rattle.lis_record_read.specs.FrontReading.{components_of, parts_following, repeats_of, symbols_of}
use Rattle.lis_record_read.specs.inside.FrontReading.{BeginsWith, ComponentFront, stops}
use Rattle.lis_record_read.proofs.FieldTexts.{plain_symbols, symbols_of-front, trailing-none, whole_part}
use Rattle.lis_record_read.proofs.Places.{Lacks-position}
use Rattle.lis_record_read.proofs.Stops.{NoStop, before, parts-marked}
use Rattle.lis_bytes.proofs.SearchLemmas.{clean-before, found-chunk, passed-chunk}

-- where bits say that a byte is nowhere among the first sixteen, or not before a place
module _ (mark : ℕ) (bytes : List ℕ) (bits count : ℕ) (room : 16 ≤ length bytes)
    (are : bits ≡ mask_l (map (λ b. b == mark) (take 16 bytes))) where
  abbrev test : ℕ → Bool
  test = λ b. b == mark

  pub free-none : count ≤ 16 → bits ≡ 0 → Lacks mark (take count bytes)
  free-none few none =
      let front = take 16 bytes in
      let long : length front ≡ 16 = omega (arith, length-take 16 bytes, room) in
      let all : take 16 front ≡ front = take_all 16 front (omega (arith, long)) in
      let clear : mask_l (map test (take 16 front)) ≡ 0 =
      ap (λ (l : List ℕ). mask_l (map test l)) all ∙ sym are ∙ none in
      let nothing : position_from test 0 front ≡ None =
      passed-chunk test 0 16 front (omega (arith, long)) clear
      ∙ ap (position_from test (0 + 16)) (drop_all 16 front (omega (arith, long))) in
      subst (Lacks mark) (take-take count 16 bytes few)
      (All-take (λ b. b ≢ mark) count front (Lacks-position mark front (position_from-zero test front ∙ nothing)))

  pub free-before : (bits ≡ 0 → ⊥) → count ≤ count_trailing_zeros 64 bits → Lacks mark (take count bytes)
  free-before some few =
      let set : mask_l (map test (take 16 bytes)) ≡ 0 → ⊥ = λ none. some (are ∙ none) in
      let at : 0 + count_trailing_zeros 64 bits ≡ count_trailing_zeros 64 bits = omega arith in
      let found : position_from test 0 bytes ≡ Some (count_trailing_zeros 64 bits) =
      rw (← are) at (found-chunk test 0 16 bytes (omega arith) room set) ∙ ap Some at in
      let before = take (count_trailing_zeros 64 bits) bytes in
      subst (Lacks mark) (take-take count (count_trailing_zeros 64 bits) bytes few)
      (All-take (λ b. b ≢ mark) count before
      (Lacks-position mark before (position_from-zero test before ∙ (clean-before test bytes _ found).1)))

-- where a byte is first, by the bits of sixteen bytes
pub near-found : (mark : ℕ) (bytes : List ℕ) (bits : ℕ) → 16 ≤ length bytes
    → bits ≡ mask_l (map (λ b. b == mark) (take 16 bytes)) → (bits ≡ 0 → ⊥)
    → position (λ b. b == mark) bytes ≡ Some (count_trailing_zeros 64 bits)
near-found mark bytes bits room are some =
    let test : ℕ → Bool = λ b. b == mark in
    let set : mask_l (map test (take 16 bytes)) ≡ 0 → ⊥ = λ none. some (are ∙ none) in
    let at : 0 + count_trailing_zeros 64 bits ≡ count_trailing_zeros 64 bits = omega arith in
    position_from-zero test bytes ∙ rw (← are) at (found-chunk test 0 16 bytes (omega arith) room set) ∙ ap Some at

-- the front of a text, where it is once more with others after it
module _ (text padded : List ℕ) (begins : BeginsWith padded text) (n : ℕ) (within : n ≤ length text) where
  pub take-begins : take n padded ≡ take n text
  take-begins = ap (take n) begins.1 ∙ take-append-le n text begins.0 within

  pub Lacks-begins : (mark : ℕ) → Lacks mark (take n padded) → Lacks mark (take n text)
  Lacks-begins mark free = subst (Lacks mark) take-begins free

  -- by the bits of sixteen bytes, where it is no longer than those that are before the byte
  module _ (mark bits : ℕ) (room : 16 ≤ length padded)
      (are : bits ≡ mask_l (map (λ b. b == mark) (take 16 padded))) where
    pub front-free : n ≤ 16 → bits ≡ 0 → Lacks mark (take n text)
    front-free few none = Lacks-begins mark (free-none mark padded bits n room are few none)

    pub front-before : (bits ≡ 0 → ⊥) → n ≤ count_trailing_zeros 64 bits → Lacks mark (take n text)
    front-before some few = Lacks-begins mark (free-before mark padded bits n room are some few)

  -- a component of the bytes before an escape byte and the symbols of those after them
  pub fronted-symbols : (d : DelimiterBytes) (rest : List ℕ) (front whole : Symbols) → Lacks d.escape (take n text)
      → front ≡ plain_component (take n padded) → rest ≡ drop n text → whole ≡ front ++ symbols_of d rest
      → whole ≡ symbols_of d text
  fronted-symbols d rest front whole free front_is rest_is whole_is =
      whole_is
      ∙ ap (λ (s : Symbols). s ++ symbols_of d rest) (front_is ∙ ap plain_component take-begins)
      ∙ ap (λ (l : List ℕ). plain_component (take n text) ++ symbols_of d l) rest_is
      ∙ sym (symbols_of-front d (take n text) (drop n text) free)
      ∙ ap (symbols_of d) (take-append-drop n text)

-- the first component of a text, by the first delimiter at which one ends
module _ (d : DelimiterBytes) (text padded : List ℕ) (begins : BeginsWith padded text) (end : ℕ)
    (found : position_from (stops d d.component) 0 padded ≡ Some end) where
  abbrev Inner : ℕ → Type 0
  Inner = NoStop d d.component

  front : (n : ℕ) → n ≤ end → n ≤ length text → All Inner (take n text)
  front n few within =
      subst (All Inner) (take-take n end padded few ∙ take-begins text padded begins n within)
      (All-take Inner n (take end padded) (before d d.component padded end found))

  no-repeat : (n : ℕ) → n ≤ end → n ≤ length text → Lacks d.repeat (take n text)
  no-repeat n few within = All-weaker Inner (λ b. b ≢ d.repeat) (λ b p. p.repeat) (take n text) (front n few within)

  no-component : (n : ℕ) → n ≤ end → n ≤ length text → Lacks d.component (take n text)
  no-component n few within =
      All-weaker Inner (λ b. b ≢ d.component) (λ b p. p.component) (take n text) (front n few within)

  module _ (plain : Bool) where
    are-symbols : (n : ℕ) → n ≤ length text → (IsTrue plain → Lacks d.escape (take n padded)) → IsTrue plain
        → symbols_of d (take n text) ≡ plain_component (take n text)
    are-symbols n within free true_is =
        plain_symbols d (take n text) (Lacks-begins text padded begins n within d.escape (free true_is))

    -- a component delimiter ends it
    pub front-marked : end < length text → (byte : ℕ) (rest : List ℕ) → drop end text ≡ byte ∷ rest
        → byte ≡ d.component → (IsTrue plain → Lacks d.escape (take end padded)) → ComponentFront d text end plain
    front-marked inside byte rest is mark free =
        let few : end ≤ end = omega arith in
        let within : end ≤ length text = omega (arith, inside) in
        record {
          within = within;
          parts = parts-marked d.component text end (no-component end few within) byte rest is mark;
          symbols = are-symbols end within free;
          single = no-repeat end few within;
          next = rw (is, eq-eqb byte d.component mark) refl;
        }

    -- the text's end does
    pub front-whole : length text ≤ end → (IsTrue plain → Lacks d.escape (take (length text) padded))
        → ComponentFront d text (length text) plain
    front-whole past free =
        let n : ℕ = length text in
        let few : n ≤ end = omega (arith, past) in
        let within : n ≤ length text = omega arith in
        let all : take n text ≡ text = take_all n text within in
        let none : drop n text ≡ [] = drop_all n text within in
        record {
          within = within;
          parts =
              rw (all, none)
              (whole_part d.component text (subst (Lacks d.component) all (no-component n few within)));
          symbols = are-symbols n within free;
          single = no-repeat n few within;
          next = rw none refl;
        }

-- what a component's bytes are, read from its front
pub front-read : (d : DelimiterBytes) (text padded : List ℕ) (end : ℕ) (plain : Bool) (added : Symbols)
    → BeginsWith padded text → ComponentFront d text end plain → IsTrue plain
    → added ≡ plain_component (take end padded) → added ≡ symbols_of d (take end text)
front-read d text padded end plain added begins f true_is is =
    is
    ∙ ap plain_component (take-begins text padded begins end f.within)
    ∙ sym (f.symbols true_is)

-- what a text begins with is no longer than it, and after its first byte the rest begins with the rest
pub begins-within : (padded text : List ℕ) (n : ℕ) → BeginsWith padded text → n ≤ length text → n ≤ length padded
begins-within padded text n begins within =
    omega (arith, within, ap (λ (l : List ℕ). length l) begins.1, length-append text begins.0)

pub begins_after : (window rest following more : List ℕ) (byte : ℕ) → BeginsWith window rest → rest ≡ byte ∷ more
    → following ≡ drop 1 window → BeginsWith following more
begins_after window rest following more byte begins is following_is =
    (begins.0, following_is ∙ ap (drop 1) (begins.1 ∙ ap (λ (l : List ℕ). l ++ begins.0) is))

pub following-within : (window rest more : List ℕ) (byte : ℕ) → BeginsWith window rest → rest ≡ byte ∷ more
    → 1 ≤ length window
following-within window rest more byte begins is =
    begins-within window rest 1 begins (omega (arith, ap (λ (l : List ℕ). length l) is))

pub following-smaller : (rest more others : List ℕ) (byte end : ℕ) → rest ≡ byte ∷ more
    → length others + end ≡ length more → length others < length rest
following-smaller rest more others byte end is left = omega (arith, left, ap (λ (l : List ℕ). length l) is)

-- a component was read, and what is left of the field; no repeat ended before it
pub record Parting (d : DelimiterBytes) (components : Components) (text rest window : List ℕ) : Type 0 where
  pub all : components ++ map (symbols_of d) (parts_following d.component rest) ≡ components_of d text
  pub front : List ℕ
  pub whole : text ≡ front ++ rest
  pub single : Lacks d.repeat front
  pub next : trailing_byte d.component rest ≡ None
  pub begins : BeginsWith window rest

module _ (d : DelimiterBytes) (text : List ℕ) where
  -- the first is read
  pub parted_begun : (components : Components) (padded rest window : List ℕ) (end : ℕ) (plain : Bool)
      → BeginsWith padded text → ComponentFront d text end plain
      → components ≡ symbols_of d (take end text) ∷ [] → rest ≡ drop end text → window ≡ drop end padded
      → Parting d components text rest window
  parted_begun components padded rest window end plain begins f read left further =
      let added = symbols_of d (take end text) in
      record {
        all =
            ap (λ (r : Components). r ++ map (symbols_of d) (parts_following d.component rest)) read
            ∙ ap (λ (l : List ℕ). added ∷ map (symbols_of d) (parts_following d.component l)) left
            ∙ ap (λ (l : List (List ℕ)). map (symbols_of d) l) (sym f.parts);
        front = take end text;
        whole =
            sym (take-append-drop end text) ∙ ap (λ (l : List ℕ). take end text ++ l) (sym left);
        single = f.single;
        next = ap (trailing_byte d.component) left ∙ f.next;
        begins = (
          begins.0,
          further ∙ ap (drop end) begins.1 ∙ drop-append-le end text begins.0 f.within
              ∙ ap (λ (l : List ℕ). l ++ begins.0) (sym left),
        );
      }

  module _ (components : Components) (rest window : List ℕ) (p : Parting d components text rest window) where
    -- one more is read
    pub parted_next : (byte : ℕ) (more following others further : List ℕ) (end : ℕ) (plain : Bool)
        (after : Components) → IsDelimiters d → rest ≡ byte ∷ more → following ≡ drop 1 window
        → ComponentFront d more end plain → after ≡ components ++ symbols_of d (take end more) ∷ []
        → others ≡ drop end more → further ≡ drop end following → Parting d after text others further
    parted_next byte more following others further end plain after apart is following_is f after_is left further_is =
        let added = symbols_of d (take end more) in
        let mark : byte ≡ d.component = trailing-none d.component byte more rest is p.next in
        let begun = begins_after window rest following more byte p.begins is following_is in
        let m : List ℕ = begun.0 in
        let begins : following ≡ more ++ m = begun.1 in
        let others_read : Components = map (symbols_of d) (parts_following d.component others) in
        let other : byte ≢ d.repeat = λ e. apart.repeat_component (sym e ∙ mark) in
        let joined : take end more ++ others ≡ more =
        ap (λ (l : List ℕ). take end more ++ l) left ∙ take-append-drop end more in
        record {
          all =
              ap (λ (r : Components). r ++ others_read) after_is
              ∙ append_assoc components (added ∷ []) others_read
              ∙ ap
              (λ (l : List ℕ). components ++ symbols_of d (take end more) ∷ map (symbols_of d) (parts_following
              d.component l)) left
              ∙ ap (λ (l : List (List ℕ)). components ++ map (symbols_of d) l) (sym f.parts)
              ∙ ap (λ (l : List ℕ). components ++ map (symbols_of d) (parts_following d.component l)) (sym is)
              ∙ p.all;
          front = p.front ++ byte ∷ take end more;
          whole =
              p.whole ∙ ap (λ (l : List ℕ). p.front ++ l) (is ∙ ap (λ (l : List ℕ). byte ∷ l) (sym joined))
              ∙ sym (append_assoc p.front (byte ∷ take end more) others);
          single =
              All-append (λ b. b ≢ d.repeat) p.front (byte ∷ take end more) p.single
              (All-cons (λ b. b ≢ d.repeat) byte (take end more) other f.single);
          next = ap (trailing_byte d.component) left ∙ f.next;
          begins = (
            m,
            further_is ∙ ap (drop end) begins ∙ drop-append-le end more m f.within
                ∙ ap (λ (l : List ℕ). l ++ m) (sym left),
          );
        }

    -- all are read
    pub parted_whole : rest ≡ [] → repeats_of d text ≡ components ∷ []
    parted_whole none =
        let all : text ≡ p.front = p.whole ∙ ap (λ (l : List ℕ). p.front ++ l) none ∙ append-nil p.front in
        let read : components ≡ components_of d text =
        sym (append-nil components)
        ∙ ap (λ (l : List ℕ). components ++ map (symbols_of d) (parts_following d.component l)) (sym none) ∙ p.all in
        ap (map (components_of d))
        (whole_part d.repeat text (subst (Lacks d.repeat) (sym all) p.single))
        ∙ ap (λ (r : Components). r ∷ []) (sym read)
