-- One pass over a text makes the table of the fields, repeats and components that it is read as.
use Rattle.std.proofs.Common.{◌≡◌, ℕ, suc, ◌+◌, ◌==◌, ◌||◌, Bool, true, false, cond, List, [], ◌∷◌, ◌++◌, length, drop}
use Rattle.std.proofs.Common.{◌<◌, get_or, refl, sym, ap, ◌∙◌, arith, inl, inr, append-nil, append_assoc, length-append}
use Rattle.std.specs.List.{list_any, onto_first}
use Rattle.std.proofs.lemmas.Bool.Decides.{eqb_tells}
use Rattle.std.proofs.lemmas.List.{drop_more}
use Rattle.lis_record_values.specs.declared.kinds.Kind.{Kind}
use Rattle.lis_record_values.specs.Delimiters.{DelimiterBytes}
use Rattle.lis_record_values.specs.Shape.{first_number}
use Rattle.lis_record.specs.Borrowed.{front_length}
use Rattle.lis_record_read.specs.FrontReading.{parts_following, parts_of}
use Rattle.lis_table.specs.declared.table.LisPart.{LisPart}
use Rattle.lis_table.specs.Table.{component_places, field_places, place_of, repeat_places, table_of}
use Rattle.lis_table.specs.inside.Table.{first_place}
use Rattle.lis_table.specs.inside.Scan.{longer, scanned}

-- the first part, and the others
abbrev first : List (List ℕ) → List ℕ
first [] = []
first (part ∷ parts) = part

abbrev others : List (List ℕ) → List (List ℕ)
others [] = []
others (part ∷ parts) = parts

first-onto : (b : ℕ) (parts : List (List ℕ)) → first (onto_first b parts) ≡ b ∷ first parts
first-onto b [] = refl
first-onto b (part ∷ parts) = refl

others-onto : (b : ℕ) (parts : List (List ℕ)) → others (onto_first b parts) ≡ others parts
others-onto b [] = refl
others-onto b (part ∷ parts) = refl

onto-some : (b : ℕ) (parts : List (List ℕ)) → onto_first b parts ≡ first (onto_first b parts) ∷ others
    (onto_first b parts)
onto-some b [] = refl
onto-some b (part ∷ parts) = refl

-- a text has a first part
parts-some : (mark : ℕ) (text : List ℕ) → parts_of mark text ≡ first (parts_of mark text) ∷ others (parts_of mark text)
parts-some mark [] = refl
parts-some mark (b ∷ bs) = by (b == mark)
  where
    by : (test : Bool) → cond test ([] ∷ parts_of mark bs) (onto_first b (parts_of mark bs))
        ≡ first (cond test ([] ∷ parts_of mark bs) (onto_first b (parts_of mark bs)))
        ∷ others (cond test ([] ∷ parts_of mark bs) (onto_first b (parts_of mark bs)))
    by true = refl
    by false = onto-some b (parts_of mark bs)

-- a byte that is a delimiter ends the first part; any other is in it
module _ (mark b : ℕ) (bs : List ℕ) where
  first-ended : (b == mark) ≡ true → first (parts_of mark (b ∷ bs)) ≡ []
  first-ended t = rw t refl

  others-ended : (b == mark) ≡ true → others (parts_of mark (b ∷ bs)) ≡ parts_of mark bs
  others-ended t = rw t refl

  first-on : (b == mark) ≡ false → first (parts_of mark (b ∷ bs)) ≡ b ∷ first (parts_of mark bs)
  first-on t = rw t (first-onto b (parts_of mark bs))

  others-on : (b == mark) ≡ false → others (parts_of mark (b ∷ bs)) ≡ others (parts_of mark bs)
  others-on t = rw t (others-onto b (parts_of mark bs))

module _ (d : DelimiterBytes) where
  -- what is left of a record in the middle of a component: its parts, of which these bytes were read
  abbrev components_left : (f r c at : ℕ) → List ℕ → List (List ℕ) → List LisPart
  components_left f r c at u parts =
      place_of d f r c at (u ++ first parts)
      ∷ component_places d f r (c + 1) (at + length (u ++ first parts) + 1) (others parts)

  abbrev repeats_left : (f r c at : ℕ) → List ℕ → List (List ℕ) → List LisPart
  repeats_left f r c at u parts =
      components_left f r c at u (parts_of d.component (first parts))
      ++ repeat_places d f (r + 1) (at + (length u + length (first parts)) + 1) (others parts)

  abbrev fields_left : (f r c at : ℕ) → List ℕ → List (List ℕ) → List LisPart
  fields_left f r c at u parts =
      repeats_left f r c at u (parts_of d.repeat (first parts))
      ++ field_places d (f + 1) (at + (length u + length (first parts)) + 1) (others parts)

  -- at the start of a component, a repeat or a field nothing of it was read
  components-start : (f r c at : ℕ) (text : List ℕ)
      → component_places d f r c at (parts_of d.component text) ≡ components_left f r c at []
      (parts_of d.component text)
  components-start f r c at text = ap (component_places d f r c at) (parts-some d.component text)

  repeats-start : (f r at : ℕ) (text : List ℕ)
      → repeat_places d f r at (parts_of d.repeat text) ≡ repeats_left f r 0 at [] (parts_of d.repeat text)
  repeats-start f r at text =
      let parts = parts_of d.repeat text in
      let size : at + length (first parts) + 1 ≡ at + (0 + length (first parts)) + 1 = omega arith in
      ap (repeat_places d f r at) (parts-some d.repeat text)
      ∙ ap (λ (l : List LisPart). l ++ repeat_places d f (r + 1) (at + length (first parts) + 1) (others parts))
      (components-start f r 0 at (first parts))
      ∙ ap (λ (n : ℕ). components_left f r 0 at [] (parts_of d.component (first parts))
      ++ repeat_places d f (r + 1) n (others parts)) size

  fields-start : (f at : ℕ) (text : List ℕ)
      → field_places d f at (parts_of d.field text) ≡ fields_left f 0 0 at [] (parts_of d.field text)
  fields-start f at text =
      let parts = parts_of d.field text in
      let size : at + length (first parts) + 1 ≡ at + (0 + length (first parts)) + 1 = omega arith in
      ap (field_places d f at) (parts-some d.field text)
      ∙ ap (λ (l : List LisPart). l ++ field_places d (f + 1) (at + length (first parts) + 1) (others parts))
      (repeats-start f 0 at (first parts))
      ∙ ap (λ (n : ℕ). repeats_left f 0 0 at [] (parts_of d.repeat (first parts))
      ++ field_places d (f + 1) n (others parts)) size

  -- a component with one more byte
  abbrev marked : Bool → ℕ → ℕ
  marked test others = cond test 1 others

  any-append : (test : ℕ → Bool) (u : List ℕ) (b : ℕ)
      → marked (test b) (marked (list_any test u) 0) ≡ marked (list_any test (u ++ b ∷ [])) 0
  any-append test [] b = by (test b)
    where
      by : (t : Bool) → marked t 0 ≡ marked (t || false) 0
      by true = refl
      by false = refl
  any-append test (x ∷ u) b = by (test x) (test b) (any-append test u b)
    where
      by : (s t : Bool) → marked t (marked (list_any test u) 0) ≡ marked (list_any test (u ++ b ∷ [])) 0
          → marked t (marked (s || list_any test u) 0) ≡ marked (s || list_any test (u ++ b ∷ [])) 0
      by true true more = refl
      by true false more = refl
      by false t more = more

  with_size : (p : LisPart) (size flags : ℕ) → p.len ≡ size → p.flags ≡ flags → p
      ≡ record p { len = size; flags = flags }
  with_size p size flags a b = rw (← a, ← b) refl

  longer-is : (f r c at : ℕ) (u : List ℕ) (b : ℕ)
      → longer d (place_of d f r c at u) b ≡ place_of d f r c at (u ++ b ∷ [])
  longer-is f r c at u b =
      let size : length u + 1 ≡ length (u ++ b ∷ []) = omega (arith, length-append u (b ∷ [])) in
      with_size (longer d (place_of d f r c at u) b) (length (u ++ b ∷ []))
      (cond (list_any (λ x. x == d.escape) (u ++ b ∷ [])) 1 0) size (any-append (λ x. x == d.escape) u b)

  -- ---- by the text's first byte

  -- what is left, by its first part and the others
  fields_left-by : (f r c at : ℕ) (u : List ℕ) (parts : List (List ℕ)) (F : List ℕ) (Fs : List (List ℕ))
      → first parts ≡ F → others parts ≡ Fs
      → fields_left f r c at u parts ≡ repeats_left f r c at u (parts_of d.repeat F)
      ++ field_places d (f + 1) (at + (length u + length F) + 1) Fs
  fields_left-by f r c at u parts F Fs e g = rw (e, g) refl

  repeats_left-by : (f r c at : ℕ) (u : List ℕ) (parts : List (List ℕ)) (R : List ℕ) (Rs : List (List ℕ))
      → first parts ≡ R → others parts ≡ Rs
      → repeats_left f r c at u parts ≡ components_left f r c at u (parts_of d.component R)
      ++ repeat_places d f (r + 1) (at + (length u + length R) + 1) Rs
  repeats_left-by f r c at u parts R Rs e g = rw (e, g) refl

  components_left-by : (f r c at : ℕ) (u : List ℕ) (parts : List (List ℕ)) (C : List ℕ) (Cs : List (List ℕ))
      → first parts ≡ C → others parts ≡ Cs
      → components_left f r c at u parts ≡ place_of d f r c at (u ++ C)
      ∷ component_places d f r (c + 1) (at + length (u ++ C) + 1) Cs
  components_left-by f r c at u parts C Cs e g = rw (e, g) refl

  module _ (f r c at : ℕ) (u : List ℕ) (b : ℕ) (bs : List ℕ) where
    abbrev p : LisPart
    p = place_of d f r c at u

    abbrev next : ℕ
    next = at + length u + 1

    abbrev fields : List (List ℕ)
    fields = parts_of d.field bs

    abbrev repeats : List (List ℕ)
    repeats = parts_of d.repeat (first fields)

    abbrev components : List (List ℕ)
    components = parts_of d.component (first repeats)

    abbrev field_left : List LisPart
    field_left = fields_left f r c at u (parts_of d.field (b ∷ bs))

    nothing : (others : List LisPart) → place_of d f r c at (u ++ []) ∷ others ≡ p ∷ others
    nothing others = ap (λ (l : List ℕ). place_of d f r c at l ∷ others) (append-nil u)

    at_end : at + (length u + 0) + 1 ≡ next
    at_end = omega arith

    -- a field delimiter
    ended-field : (b == d.field) ≡ true → field_left ≡ p ∷ field_places d (f + 1) next fields
    ended-field t =
        fields_left-by f r c at u (parts_of d.field (b ∷ bs)) [] fields (first-ended d.field b bs t)
        (others-ended d.field b bs t)
        ∙ nothing (field_places d (f + 1) (at + (length u + 0) + 1) fields)
        ∙ ap (λ (n : ℕ). p ∷ field_places d (f + 1) n fields) at_end

    module _ (t : (b == d.field) ≡ false) where
      abbrev fields_after : ℕ → List LisPart
      fields_after size = field_places d (f + 1) (at + (length u + size) + 1) (others fields)

      in-field : field_left
          ≡ repeats_left f r c at u (parts_of d.repeat (b ∷ first fields)) ++ fields_after (suc (length (first fields)))
      in-field = fields_left-by f r c at u (parts_of d.field (b ∷ bs)) (b ∷ first fields) (others fields)
          (first-on d.field b bs t) (others-on d.field b bs t)

      fields_later : (n m : ℕ) → at + (length u + suc (length (first fields))) + 1 ≡ n + (m + length (first fields)) + 1
          → (l : List LisPart) → l ++ fields_after (suc (length (first fields)))
          ≡ l ++ field_places d (f + 1) (n + (m + length (first fields)) + 1) (others fields)
      fields_later n m e l = ap (λ (k : ℕ). l ++ field_places d (f + 1) k (others fields)) e

      -- a repeat delimiter
      ended-repeat : (b == d.repeat) ≡ true → field_left
          ≡ p ∷ fields_left f (r + 1) 0 next [] fields
      ended-repeat s =
          in-field
          ∙ ap (λ (l : List LisPart). l ++ fields_after (suc (length (first fields))))
          (repeats_left-by f r c at u (parts_of d.repeat (b ∷ first fields)) [] repeats
          (first-ended d.repeat b (first fields) s) (others-ended d.repeat b (first fields) s)
          ∙ nothing (repeat_places d f (r + 1) (at + (length u + 0) + 1) repeats)
          ∙ ap (λ (n : ℕ). p ∷ repeat_places d f (r + 1) n repeats) at_end
          ∙ ap (λ (l : List LisPart). p ∷ l) (repeats-start f (r + 1) next (first fields)))
          ∙ fields_later next 0 (omega arith) (p ∷ repeats_left f (r + 1) 0 next [] repeats)

      module _ (s : (b == d.repeat) ≡ false) where
        abbrev repeats_after : ℕ → List LisPart
        repeats_after size = repeat_places d f (r + 1) (at + (length u + size) + 1) (others repeats)

        in-repeat : field_left
            ≡ (components_left f r c at u (parts_of d.component (b ∷ first repeats))
            ++ repeats_after (suc (length (first repeats)))) ++ fields_after (suc (length (first fields)))
        in-repeat =
            in-field
            ∙ ap (λ (l : List LisPart). l ++ fields_after (suc (length (first fields))))
            (repeats_left-by f r c at u (parts_of d.repeat (b ∷ first fields)) (b ∷ first repeats) (others repeats)
            (first-on d.repeat b (first fields) s) (others-on d.repeat b (first fields) s))

        repeats_later : (n m : ℕ)
            → at + (length u + suc (length (first repeats))) + 1 ≡ n + (m + length (first repeats)) + 1
            → (l : List LisPart) → l ++ repeats_after (suc (length (first repeats)))
            ≡ l ++ repeat_places d f (r + 1) (n + (m + length (first repeats)) + 1) (others repeats)
        repeats_later n m e l = ap (λ (k : ℕ). l ++ repeat_places d f (r + 1) k (others repeats)) e

        later : (n m : ℕ) (l : List LisPart)
            → at + (length u + suc (length (first repeats))) + 1 ≡ n + (m + length (first repeats)) + 1
            → at + (length u + suc (length (first fields))) + 1 ≡ n + (m + length (first fields)) + 1
            → (l ++ repeats_after (suc (length (first repeats)))) ++ fields_after (suc (length (first fields)))
            ≡ (l ++ repeat_places d f (r + 1) (n + (m + length (first repeats)) + 1) (others repeats))
            ++ field_places d (f + 1) (n + (m + length (first fields)) + 1) (others fields)
        later n m l e g =
            ap (λ (k : List LisPart). k ++ fields_after (suc (length (first fields)))) (repeats_later n m e l)
            ∙ fields_later n m g
            (l ++ repeat_places d f (r + 1) (n + (m + length (first repeats)) + 1) (others repeats))

        -- a component delimiter
        ended-component : (b == d.component) ≡ true → field_left
            ≡ p ∷ fields_left f r (c + 1) next [] fields
        ended-component w =
            in-repeat
            ∙ ap (λ (l : List LisPart). (l ++ repeats_after (suc (length (first repeats))))
            ++ fields_after (suc (length (first fields))))
            (components_left-by f r c at u (parts_of d.component (b ∷ first repeats)) [] components
            (first-ended d.component b (first repeats) w) (others-ended d.component b (first repeats) w)
            ∙ nothing (component_places d f r (c + 1) (at + length (u ++ []) + 1) components)
            ∙ ap (λ (l : List ℕ). p ∷ component_places d f r (c + 1) (at + length l + 1) components) (append-nil u)
            ∙ ap (λ (l : List LisPart). p ∷ l) (components-start f r (c + 1) next (first repeats)))
            ∙ later next 0 (p ∷ components_left f r (c + 1) next [] components) (omega arith) (omega arith)

        -- any other byte
        on : (b == d.component) ≡ false → field_left ≡ fields_left f r c at (u ++ b ∷ []) fields
        on w =
            let size : length (u ++ b ∷ []) ≡ length u + 1 = length-append u (b ∷ []) in
            let same : u ++ (b ∷ first components) ≡ (u ++ b ∷ []) ++ first components =
            sym (append_assoc u (b ∷ []) (first components)) in
            in-repeat
            ∙ ap (λ (l : List LisPart). (l ++ repeats_after (suc (length (first repeats))))
            ++ fields_after (suc (length (first fields))))
            (components_left-by f r c at u (parts_of d.component (b ∷ first repeats)) (b ∷ first components)
            (others components) (first-on d.component b (first repeats) w) (others-on d.component b (first repeats) w)
            ∙ ap (λ (l : List ℕ). place_of d f r c at l
            ∷ component_places d f r (c + 1) (at + length l + 1) (others components)) same)
            ∙ later at (length (u ++ b ∷ [])) (components_left f r c at (u ++ b ∷ []) components)
            (omega (arith, size)) (omega (arith, size))
        -- ---- the pass at that byte

    scanned-field : (b == d.field) ≡ true
        → scanned d p (b ∷ bs) ≡ p ∷ scanned d (place_of d (f + 1) 0 0 next []) bs
    scanned-field t = rw t refl

    scanned-repeat : (b == d.field) ≡ false → (b == d.repeat) ≡ true
        → scanned d p (b ∷ bs) ≡ p ∷ scanned d (place_of d f (r + 1) 0 next []) bs
    scanned-repeat t s = rw (t, s) refl

    scanned-component : (b == d.field) ≡ false → (b == d.repeat) ≡ false → (b == d.component) ≡ true
        → scanned d p (b ∷ bs) ≡ p ∷ scanned d (place_of d f r (c + 1) next []) bs
    scanned-component t s w = rw (t, s, w) refl

  scanned-on : (p : LisPart) (b : ℕ) (bs : List ℕ) → (b == d.field) ≡ false → (b == d.repeat) ≡ false
      → (b == d.component) ≡ false → scanned d p (b ∷ bs) ≡ scanned d (longer d p b) bs
  scanned-on p b bs t s w = rw (t, s, w) refl

  -- the pass makes what is left of the table
  pub scanned-left : (bs : List ℕ) (f r c at : ℕ) (u : List ℕ)
      → scanned d (place_of d f r c at u) bs ≡ fields_left f r c at u (parts_of d.field bs)
  scanned-left [] f r c at u = ap (λ (l : List ℕ). place_of d f r c at l ∷ []) (sym (append-nil u))
  scanned-left (b ∷ bs) f r c at u =
      elim (eqb_tells b d.field) [
        | inl t ↦
            scanned-field f r c at u b bs t.0
            ∙ ap (λ (l : List LisPart). place_of d f r c at u ∷ l)
            (scanned-left bs (f + 1) 0 0 (at + length u + 1) []
            ∙ sym (fields-start (f + 1) (at + length u + 1) bs))
            ∙ sym (ended-field f r c at u b bs t.0)
        | inr t ↦
            elim (eqb_tells b d.repeat) [
              | inl s ↦
                  scanned-repeat f r c at u b bs t.0 s.0
                  ∙ ap (λ (l : List LisPart). place_of d f r c at u ∷ l)
                  (scanned-left bs f (r + 1) 0 (at + length u + 1) [])
                  ∙ sym (ended-repeat f r c at u b bs t.0 s.0)
              | inr s ↦
                  elim (eqb_tells b d.component) [
                    | inl w ↦
                        scanned-component f r c at u b bs t.0 s.0 w.0
                        ∙ ap (λ (l : List LisPart). place_of d f r c at u ∷ l)
                        (scanned-left bs f r (c + 1) (at + length u + 1) [])
                        ∙ sym (ended-component f r c at u b bs t.0 s.0 w.0)
                    | inr w ↦
                        scanned-on (place_of d f r c at u) b bs t.0 s.0 w.0
                        ∙ ap (λ (q : LisPart). scanned d q bs) (longer-is f r c at u b)
                        ∙ scanned-left bs f r c at (u ++ b ∷ [])
                        ∙ sym (on f r c at u b bs t.0 s.0 w.0)
                  ]
            ]
      ]

  -- the table of a record's fields
  pub scanned-table : (f at b : ℕ) (bs text : List ℕ) → text ≡ b ∷ bs
      → scanned d (place_of d f 0 0 at []) bs ≡ field_places d f at (parts_following d.field text)
  scanned-table f at b bs text is =
      scanned-left bs f 0 0 at [] ∙ sym (fields-start f at bs)
      ∙ ap (λ (l : List ℕ). field_places d f at (parts_following d.field l)) (sym is)

-- the table of a record whose fields begin there
pub scanned-record : (d : DelimiterBytes) (kind : Kind) (text fields : List ℕ) (before : ℕ) (first : LisPart)
    → before ≡ front_length kind → before < length text → fields ≡ drop (before + 1) text → first ≡ first_place kind
    → scanned d first fields ≡ table_of d kind text
scanned-record d kind text fields before first front longer_is following starts =
    let at : drop (front_length kind) text ≡ get_or text before 0 ∷ fields =
    ap (λ (n : ℕ). drop n text) (sym front) ∙ drop_more text before 0 longer_is
    ∙ ap (λ (l : List ℕ). get_or text before 0 ∷ l) (sym following) in
    ap (λ (p : LisPart). scanned d p fields) starts
    ∙ scanned-table d (first_number kind) (front_length kind + 1) (get_or text before 0) fields
    (drop (front_length kind) text) at
