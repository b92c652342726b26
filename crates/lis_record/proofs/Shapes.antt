-- What a text is as a record has the shape of one: parts that are never empty, and symbols that carry bytes.
use Rattle.std.proofs.Common.{◌≡◌, ℕ, zero, suc, ◌<◌, ◌==◌, Bool, true, false, List, [], ◌∷◌, ◌++◌, map, length}
use Rattle.std.proofs.Common.{Option, None, Some, option_map, Result, Ok, Err, refl, subst, arith}
use Rattle.std.specs.List.{All, AllByRecursion, AllZip, flat_map, join_with_byte}
use Rattle.std.specs.Prelude.{IsTrue, if◌then◌else◌}
use Rattle.std.proofs.lemmas.Bool.Decides.{nat_tests}
use Rattle.std.proofs.lemmas.List.Elements.{All-append, All-cons, All-nil, All-same, All-weaker, recursion_from_All}
use Rattle.hex.specs.Hex.{IsBytes, decode_of}
use Rattle.hex.specs.declared.error.FromHexError.{FromHexError}
use Rattle.hex.proofs.HexLemmas.{decode_of-ok}
use Rattle.lis_record_values.specs.declared.symbols.Sym.{Sym}
use Rattle.lis_record_values.specs.declared.symbols.Sym.TheVariants.{Char, Raw, On, Off}
use Rattle.lis_record_values.specs.Delimiters.{DelimiterBytes, IsDelimiters, is_punctuation}
use Rattle.lis_record_values.specs.Shape.{AreSymbols, Components, IsFieldShape, IsRecordShape, IsRepeatShape, IsSymbol}
use Rattle.lis_record_values.specs.Shape.{AreSome, RecordContent, Repeats, Symbols}
use Rattle.lis_record_values.specs.Escapes.{IsComponent, escape, escape_of, letter_symbol, lone, nothing, plain}
use Rattle.lis_record_values.specs.Escapes.{raw_symbols}
use Rattle.lis_record_values.specs.Relation.{IsField, IsJoined, IsRecord, IsRepeat, declared_part}
use Rattle.lis_record_values.specs.Text.{IsRecordText, is_text_byte}

abbrev Small : List ℕ → Type 0
Small = AllByRecursion (λ b. b < 256)

small_text_byte : (b : ℕ) → is_text_byte b ≡ true → b < 256
unfolding is_text_byte
small_text_byte b h = grind (arith, nat_tests)

small_mark : (b : ℕ) → IsTrue (is_punctuation b) → b < 256
unfolding is_punctuation
small_mark b h = grind (arith, nat_tests)

small_text : (text : List ℕ) → IsRecordText text → Small text
small_text text h = recursion_from_All (λ b. b < 256) text
    (All-weaker (λ b. is_text_byte b ≡ true) (λ b. b < 256) small_text_byte text h)

small_front : (xs ys : List ℕ) → Small (xs ++ ys) → Small xs
small_front [] ys h = tt
small_front (x ∷ xs) ys h = (h.0, small_front xs ys h.1)

small_rest : (xs ys : List ℕ) → Small (xs ++ ys) → Small ys
small_rest [] ys h = h
small_rest (x ∷ xs) ys h = small_rest xs ys h.1

-- ---- symbols

same_some : {X : Type 0} (x y : X) → Some x ≡ Some y → x ≡ y
same_some x y h = cc

either_symbol : (b : Bool) (x : Sym) (o : Option Sym) → IsSymbol x → ((y : Sym) → o ≡ Some y → IsSymbol y) → (y : Sym)
    → (if b then Some x else o) ≡ Some y → IsSymbol y
either_symbol true x o good others y e = subst IsSymbol (same_some x y e) good
either_symbol false x o good others y e = others y e

no_symbol : (y : Sym) → ◌≡◌ {A = Option Sym} None (Some y) → IsSymbol y
no_symbol y e = cc

letter_shape : (d : DelimiterBytes) → IsDelimiters d → (letter : ℕ) (y : Sym) → letter_symbol d letter ≡ Some y
    → IsSymbol y
letter_shape d good letter =
    either_symbol (letter == 72) On _ tt (either_symbol (letter == 78) Off _ tt
    (either_symbol (letter == 70) (Char d.field) _ (small_mark d.field good.field_is)
    (either_symbol (letter == 83) (Char d.component) _ (small_mark d.component good.component_is)
    (either_symbol (letter == 82) (Char d.repeat) _ (small_mark d.repeat good.repeat_is)
    (either_symbol (letter == 69) (Char d.escape) _ (small_mark d.escape good.escape_is) no_symbol)))))

raws : (bytes : List ℕ) → Small bytes → AreSymbols (map Raw bytes)
raws [] h = All-nil IsSymbol
raws (b ∷ bytes) h = All-cons IsSymbol (Raw b) (map Raw bytes) h.0 (raws bytes h.1)

raw_shape : (r : Result (List ℕ) FromHexError) (meant : Symbols) → ((bytes : List ℕ) → r ≡ Ok bytes → Small bytes)
    → raw_symbols r ≡ Some meant → AreSymbols meant
raw_shape (Ok bytes) meant good e = subst AreSymbols (same_some (map Raw bytes) meant e) (raws bytes (good bytes refl))
raw_shape (Err fault) meant good e = cc

one_symbol : (o : Option Sym) (meant : Symbols) → ((y : Sym) → o ≡ Some y → IsSymbol y)
    → option_map (λ symbol. symbol ∷ []) o ≡ Some meant → AreSymbols meant
one_symbol (Some y) meant good e = subst AreSymbols (same_some (y ∷ []) meant e)
    (All-cons IsSymbol y [] (good y refl) (All-nil IsSymbol))
one_symbol None meant good e = cc

raw_or_none : (b : Bool) (o : Option Symbols) (meant : Symbols) → (o ≡ Some meant → AreSymbols meant)
    → (if b then o else None) ≡ Some meant → AreSymbols meant
raw_or_none true o meant good e = good e
raw_or_none false o meant good e = cc

small_bytes : (bytes : List ℕ) → IsBytes bytes → Small bytes
small_bytes [] h = tt
small_bytes (b ∷ bytes) h = (h zero, small_bytes bytes (λ i. h (suc i)))

escape_shape : (d : DelimiterBytes) → IsDelimiters d → (inside : List ℕ) (meant : Symbols)
    → escape_of d inside ≡ Some meant → AreSymbols meant
unfolding escape_of
escape_shape d good [] meant e = cc
escape_shape d good (letter ∷ []) meant e = one_symbol (letter_symbol d letter) meant (letter_shape d good letter) e
escape_shape d good (letter ∷ digit ∷ digits) meant e =
    raw_or_none (letter == 88) (raw_symbols (decode_of (digit ∷ digits))) meant
    (raw_shape (decode_of (digit ∷ digits)) meant (λ bytes is. small_bytes bytes
    ((decode_of-ok (digit ∷ digits) bytes is).3))) e

component_shape : (d : DelimiterBytes) → IsDelimiters d → (text : List ℕ) (symbols : Symbols) → Small text
    → IsComponent d text symbols → AreSymbols symbols
component_shape d good text symbols small (nothing t s) = All-same IsSymbol symbols [] s (All-nil IsSymbol)
component_shape d good text symbols small (plain byte rest others t s other more) =
    let inner : Small (byte ∷ rest) = subst Small t small in
    All-same IsSymbol symbols (Char byte ∷ others) s
    (All-cons IsSymbol (Char byte) others inner.0 (component_shape d good rest others inner.1 more))
component_shape d good text symbols small (escape inside rest meant others t s is more) =
    let inner : Small (d.escape ∷ inside ++ d.escape ∷ rest) = subst Small t small in
    let following : Small (d.escape ∷ rest) = small_rest inside (d.escape ∷ rest) inner.1 in
    All-same IsSymbol symbols (meant ++ others) s (All-append IsSymbol meant others
    (escape_shape d good inside meant is) (component_shape d good rest others following.1 more))
component_shape d good text symbols small (lone rest others t s none more) =
    let inner : Small (d.escape ∷ rest) = subst Small t small in
    All-same IsSymbol symbols (Char d.escape ∷ others) s
    (All-cons IsSymbol (Char d.escape) others inner.0 (component_shape d good rest others inner.1 more))

-- ---- parts

abbrev AllSmall : List (List ℕ) → Type 0
AllSmall = AllByRecursion Small

small_parts : (byte : ℕ) (parts : List (List ℕ)) → Small (join_with_byte byte parts) → AllSmall parts
small_parts byte [] h = tt
small_parts byte (x ∷ []) h = (h, tt)
small_parts byte (x ∷ y ∷ xs) h = (
  small_front x (byte ∷ join_with_byte byte (y ∷ xs)) h,
  small_parts byte (y ∷ xs)
      (small_rest x (byte ∷ join_with_byte byte (y ∷ xs)) h).1,
)

small_after : (byte : ℕ) (parts : List (List ℕ)) → Small (flat_map (λ part. byte ∷ part) parts) → AllSmall parts
small_after byte [] h = tt
small_after byte (x ∷ xs) h = (
  (small_front (byte ∷ x) (flat_map (λ part. byte ∷ part) xs) h).1,
  small_after byte xs
      (small_rest (byte ∷ x) (flat_map (λ part. byte ∷ part) xs) h),
)

module _ {A : Type 0} (IsItem : List ℕ → A → Type 0) (P : A → Type 0)
    (each : (text : List ℕ) (item : A) → Small text → IsItem text item → P item) where
  all_items : (parts : List (List ℕ)) (items : List A) → AllSmall parts → AllZip IsItem parts items → All P items
  all_items [] [] small zip = All-nil P
  all_items [] (item ∷ items) small zip = absurd zip
  all_items (part ∷ parts) [] small zip = All-nil P
  all_items (part ∷ parts) (item ∷ items) small zip =
      All-cons P item items (each part item small.0 zip.0) (all_items parts items small.1 zip.1)

  some_items : (parts : List (List ℕ)) (items : List A) → 0 < length parts → AllZip IsItem parts items
      → 0 < length items
  some_items [] items some zip = absurd (omega (arith, some))
  some_items (part ∷ parts) [] some zip = absurd zip
  some_items (part ∷ parts) (item ∷ items) some zip = omega arith

  joined_items : (byte : ℕ) (text : List ℕ) (items : List A) → Small text → IsJoined byte IsItem text items
      → AreSome P items
  joined_items byte text items small h = record {
    some = some_items h.parts items h.some h.each;
    each = all_items h.parts items (small_parts byte h.parts (subst Small h.joined small)) h.each;
  }

repeat_shape : (d : DelimiterBytes) → IsDelimiters d → (text : List ℕ) (components : Components) → Small text
    → IsRepeat d text components → IsRepeatShape components
repeat_shape d good = joined_items (IsComponent d) AreSymbols (component_shape d good) d.component

field_shape : (d : DelimiterBytes) → IsDelimiters d → (text : List ℕ) (repeats : Repeats) → Small text
    → IsField d text repeats → IsFieldShape repeats
field_shape d good = joined_items (IsRepeat d) IsRepeatShape (repeat_shape d good) d.repeat

-- what a text is has the shape of a record
pub IsRecord-shape : (d : DelimiterBytes) → IsDelimiters d → (text : List ℕ) (content : RecordContent)
    → IsRecord d text content → IsRecordShape content
IsRecord-shape d good text content h =
    let all : Small (h.letter ∷ declared_part d content.kind ++ h.fields_text) =
    subst Small h.whole (small_text text h.is_text) in
    let fields : Small h.fields_text = small_rest (declared_part d content.kind) h.fields_text all.1 in
    all_items (IsField d) IsFieldShape (field_shape d good) h.fields_are.parts content.fields
    (small_after d.field h.fields_are.parts (subst Small h.fields_are.joined fields)) h.fields_are.each
