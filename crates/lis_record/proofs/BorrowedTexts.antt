-- Parts of a record that are in a text, and their encoding.
use Rattle.std.proofs.Common.{◌≡◌, ◌≢◌, ℕ, ◌-◌, ◌≤◌, false, ltb, option_map, List, [], ◌∷◌, ◌++◌, map, length, Option}
use Rattle.std.proofs.Common.{Some, None, slice_get, refl, sym, ap, ◌∙◌, subst, append_assoc, inl, inr}
use Rattle.std.specs.List.{All}
use Rattle.std.proofs.lemmas.Bool.Decides.{eqb_tells}
use Rattle.std.proofs.lemmas.List.{nil_from_length}
use Rattle.std.proofs.lemmas.List.Elements.{All-head, All-tail, All-cons, All-nil}
use Rattle.std.proofs.lemmas.Option.{get_or_from_slice_get, slice_get-map, slice_get_within}
use Rattle.lis_record_values.specs.declared.symbols.Sym.{Sym}
use Rattle.lis_record_values.specs.declared.symbols.Sym.TheVariants.{Char}
use Rattle.lis_record_values.specs.Delimiters.{DelimiterBytes}
use Rattle.lis_record_values.specs.Shape.{Symbols, field_at, first_number}
use Rattle.lis_record_values.specs.declared.kinds.Kind.{Kind}
use Rattle.lis_record_values.proofs.FirstFaults.{ltb-past, test_false}
use Rattle.lis_record.specs.Borrowed.{Borrowed, borrowed}
use Rattle.lis_record_read.specs.FrontReading.{components_of, fields_of, parts_following, parts_of, repeats_of}
use Rattle.lis_record_read.specs.FrontReading.{symbols_of}
use Rattle.lis_record_values.specs.Relation.{Lacks}
use Rattle.lis_record_write.specs.inside.Remaining.{more_components}
use Rattle.lis_record.specs.inside.BorrowedRemaining.{remaining_text}
use Rattle.lis_record_write.specs.Encoding.{encoded_component, encoded_field, encoded_repeat, encoded_symbol}
use Rattle.lis_record_read.proofs.Joins.{onto_first-apart, parts_of-apart}
use Rattle.lis_record_write.proofs.Steps.{field_alone, encoded_field-first, encoded_repeat-first}

-- ---- the parts of a text

-- what a byte is nowhere in has it in no part
pub parts_of-Lacks : (byte mark : ℕ) (text : List ℕ) → Lacks mark text → All (Lacks mark) (parts_of byte text)
parts_of-Lacks byte mark [] h = All-cons (Lacks mark) [] [] (All-nil (λ c. c ≢ mark)) (All-nil (Lacks mark))
parts_of-Lacks byte mark (b ∷ bs) h =
    let P : ℕ → Type 0 = λ c. c ≢ mark in
    let more = parts_of-Lacks byte mark bs (All-tail P b bs h) in
    elim (eqb_tells b byte) [
      | inl same ↦ rw same.0 (All-cons (Lacks mark) [] (parts_of byte bs) (All-nil P) more)
      | inr other ↦ rw other.0 (onto_first-apart mark b (All-head P b bs h) (parts_of byte bs) more)
    ]

at_place : {X : Type 0} (P : X → Type 0) (xs : List X) (k : ℕ) (x : X) → All P xs → slice_get xs k ≡ Some x → P x
at_place P xs k x all is = subst P (get_or_from_slice_get xs k x x is) (all k x (slice_get_within xs k x is))

-- a part after a delimiter doesn't hold it
pub Lacks-part : (byte place : ℕ) (text part : List ℕ) → Some part ≡ slice_get (parts_following byte text) place
    → Lacks byte part
Lacks-part byte place [] part is = let none : None ≡ Some part = sym is in cc none
Lacks-part byte place (mark ∷ text) part is = at_place (Lacks byte) (parts_of byte text) place part
    (parts_of-apart byte text) (sym is)

-- the field of a number is that of the part at its place
pub field_found : (d : DelimiterBytes) (kind : Kind) (fields part : List ℕ) (number place first : ℕ)
    → first ≡ first_number kind → first ≤ number → place ≡ number - first
    → Some part ≡ slice_get (parts_following d.field fields) place
    → Some (borrowed d (repeats_of d part)) ≡ option_map (borrowed d)
    (field_at (record { kind = kind; fields = fields_of d fields }) number)
field_found d kind fields part number place first is_first above is_place found =
    let past : ltb number (first_number kind) ≡ false = ltb-past number (first_number kind) (rw is_first at above) in
    let at : Some part ≡ slice_get (parts_following d.field fields) (number - first_number kind) =
    found ∙ ap (slice_get (parts_following d.field fields)) (is_place ∙ ap (λ (f : ℕ). number - f) is_first) in
    rw past (ap (λ (o : Option (List ℕ)). option_map (borrowed d) (option_map (repeats_of d) o)) at
    ∙ ap (option_map (borrowed d))
    (sym (slice_get-map (repeats_of d) (parts_following d.field fields) (number - first_number kind))))

-- the part at a place is borrowed under the list's delimiters
pub part_borrowed : {A : Type 0} (reported : DelimiterBytes → List ℕ → A) (d : DelimiterBytes) (items : List A)
    (list : Borrowed (List A)) → borrowed d items ≡ list → (text : List ℕ) (part : Borrowed A) (place : ℕ)
    → part ≡ borrowed d (reported d text) → Some (reported list.delimiters text) ≡ slice_get list.content place
    → Some part ≡ option_map (borrowed list.delimiters) (slice_get list.content place)
part_borrowed {A} reported d items list whole text part place is found =
    ap (λ (p : Borrowed A). Some p) is
    ∙ ap (λ (l : Borrowed (List A)). Some (borrowed l.delimiters (reported l.delimiters text))) whole
    ∙ ap (option_map (borrowed list.delimiters)) found

-- the items of the parts after a delimiter
pub following_first : {A : Type 0} (f : List ℕ → A) (byte mark : ℕ) (all text part rest : List ℕ) → all ≡ mark ∷ text
    → parts_of byte text ≡ part ∷ parts_following byte rest
    → map f (parts_following byte all) ≡ f part ∷ map f (parts_following byte rest)
following_first f byte mark all text part rest whole first =
    ap (λ (l : List ℕ). map f (parts_following byte l)) whole ∙ ap (map f) first

pub following_none : {A : Type 0} (f : List ℕ → A) (byte : ℕ) (all : List ℕ) → length all ≡ 0
    → length (map f (parts_following byte all)) ≡ 0
following_none f byte all none = ap (λ (l : List ℕ). length (map f (parts_following byte l))) (nil_from_length all none)

module _ (d : DelimiterBytes) where
  -- the first component of a repeat, and what follows it
  pub text_repeat-first : (repeat component components : List ℕ) (symbols : Symbols)
      → parts_of d.component repeat ≡ component ∷ parts_following d.component components → symbols
      ≡ symbols_of d component
      → encoded_repeat d (components_of d repeat) ≡ encoded_component d symbols
      ++ more_components d (map (symbols_of d) (parts_following d.component components))
  text_repeat-first repeat component components symbols first read =
      let others = map (symbols_of d) (parts_following d.component components) in
      encoded_repeat-first d (components_of d repeat) symbols others
      (ap (map (symbols_of d)) first ∙ ap (λ (s : Symbols). s ∷ others) (sym read))

  -- what is left of a field is all of it at first
  pub text_field-first : (text repeat repeats component components : List ℕ) (symbols : Symbols)
      → parts_of d.repeat text ≡ repeat ∷ parts_following d.repeat repeats
      → parts_of d.component repeat ≡ component ∷ parts_following d.component components → symbols
      ≡ symbols_of d component
      → remaining_text d symbols components repeats ≡ encoded_field d (repeats_of d text)
  text_field-first text repeat repeats component components symbols outer inner read =
      let cs = map (symbols_of d) (parts_following d.component components) in
      let rs = map (components_of d) (parts_following d.repeat repeats) in
      field_alone d (repeats_of d text) symbols cs rs
      (encoded_field-first d (repeats_of d text) (components_of d repeat) rs symbols cs
      (ap (map (components_of d)) outer) (text_repeat-first repeat component components symbols inner read))

  pub symbol_taken : (old new : List ℕ) (symbols others : Symbols) (symbol : Sym) → symbols ≡ symbol ∷ others
      → new ≡ old ++ encoded_symbol d symbol
      → new ++ encoded_component d others ≡ old ++ encoded_component d symbols
  symbol_taken old new symbols others symbol taken pushed =
      rw (pushed, taken) (append_assoc old (encoded_symbol d symbol) (encoded_component d others))

-- ---- what holds no escape byte is encoded as it is

module _ (d : DelimiterBytes) where
  pub char_as_is : (b : ℕ) → b ≢ d.field → b ≢ d.repeat → b ≢ d.component → b ≢ d.escape
      → encoded_symbol d (Char b) ≡ b ∷ []
  unfolding encoded_symbol
  char_as_is b field repeat component escape =
      rw (
        test_false b d.field field,
        test_false b d.component component,
        test_false b d.repeat repeat,
        test_false b
            d.escape escape,
      ) refl
