-- A text's own encoding is that of its components, repeats and fields.
use Rattle.std.proofs.Common.{◌≡◌, ◌≢◌, ℕ, zero, suc, ◌+◌, ◌≤◌, ◌<◌, true, inl, inr, List, [], ◌∷◌, ◌++◌, map}
use Rattle.std.proofs.Common.{length, drop, Some, None, get_or, refl, sym, ap, ◌∙◌, eq-eqb, append_assoc}
use Rattle.std.proofs.Common.{append-nil, length-append, arith}
use Rattle.std.specs.List.{All, flat_map, join_with_byte}
use Rattle.std.proofs.lemmas.Bool.Decides.{eqb_tells}
use Rattle.std.proofs.lemmas.Grind.{flat_map-append}
use Rattle.std.proofs.lemmas.List.Elements.{All-cons, All-head, All-nil, All-tail}
use Rattle.std.proofs.lemmas.List.Splits.{join_with_byte-slice_split}
use Rattle.lis_record_values.specs.declared.symbols.Sym.TheVariants.{Char}
use Rattle.lis_record_values.specs.Delimiters.{DelimiterBytes, IsDelimiters, is_punctuation}
use Rattle.lis_record_values.specs.Shape.{Symbols}
use Rattle.lis_record_values.proofs.FirstFaults.{some_none, test_false}
use Rattle.lis_record_values.specs.Relation.{Lacks}
use Rattle.lis_record_write.specs.Encoding.{encoded_component, encoded_field, encoded_repeat, encoded_symbol}
use Rattle.lis_record_write.specs.Encoding.{more_fields}
use Rattle.lis_record_read.specs.FrontReading.{components_of, escape_at, parts_of, repeats_of, symbols_after}
use Rattle.lis_record_read.specs.FrontReading.{symbols_of}
use Rattle.lis_record.specs.inside.Reencoding.{reencoded, reencoded_after}
use Rattle.lis_record_read.proofs.Components.{BegunAt-escape_at, Lacks-inside, escape_at-begun, escape_cases}
use Rattle.lis_record_read.proofs.Joins.{parts_of-apart}
use Rattle.lis_record.proofs.BorrowedTexts.{char_as_is, parts_of-Lacks}

-- ---- an escape is on one side of a delimiter

-- what is before a byte begins with a part that doesn't hold it
front_part : (mark end : ℕ) → mark ≢ end → (inside text rest others : List ℕ) → Lacks mark inside
    → text ++ mark ∷ rest ≡ inside ++ end ∷ others → (more : List ℕ) × (text ≡ inside ++ end ∷ more)
front_part mark end apart [] [] rest others h e = absurd (let same : mark ≡ end = cc in apart same)
front_part mark end apart [] (t ∷ text) rest others h e =
    let same : t ≡ end = cc in (text, ap (λ (b : ℕ). b ∷ text) same)
front_part mark end apart (i ∷ inside) [] rest others h e =
    let same : i ≡ mark = cc in
    absurd (All-head (λ b. b ≢ mark) i inside h same)
front_part mark end apart (i ∷ inside) (t ∷ text) rest others h e =
    let same : t ≡ i = cc in
    let tails : text ++ mark ∷ rest ≡ inside ++ end ∷ others = cc in
    let found = front_part mark end apart inside text rest others (All-tail (λ b. b ≢ mark) i inside h) tails in
    (found.0, rw same (ap (λ (l : List ℕ). i ∷ l) found.1))

module _ (d : DelimiterBytes) (good : IsDelimiters d) (mark : ℕ) (punctuation : is_punctuation mark ≡ true)
    (apart : mark ≢ d.escape) where
  escape_at-seam : (text rest : List ℕ) → escape_at d (text ++ mark ∷ rest) ≡ escape_at d text
  escape_at-seam text rest =
      elim (escape_cases (escape_at d text)) [
        | inr some ↦
            let begun = BegunAt-escape_at d text some.0 some.1 in
            let here = escape_at-begun d good begun.inside begun.rest some.0.0 begun.means in
            let there = escape_at-begun d good begun.inside (begun.rest ++ mark ∷ rest) some.0.0 begun.means in
            let whole : text ++ mark ∷ rest ≡ begun.inside ++ d.escape ∷ (begun.rest ++ mark ∷ rest) =
            ap (λ (l : List ℕ). l ++ mark ∷ rest) begun.whole
            ∙ append_assoc begun.inside (d.escape ∷ begun.rest) (mark ∷ rest) in
            ap (escape_at d) whole ∙ there ∙ sym here ∙ ap (escape_at d) (sym begun.whole)
        | inl none ↦
            elim (escape_cases (escape_at d (text ++ mark ∷ rest))) [
              | inl too ↦ too ∙ sym none
              | inr some ↦
                  let begun = BegunAt-escape_at d (text ++ mark ∷ rest) some.0 some.1 in
                  let free = Lacks-inside d mark punctuation begun.inside some.0.0 begun.means in
                  let front = front_part mark d.escape apart begun.inside text rest begun.rest free begun.whole in
                  let here = escape_at-begun d good begun.inside front.0 some.0.0 begun.means in
                  absurd (some_none (some.0.0, length begun.inside + 1) (escape_at d text)
                  (ap (escape_at d) front.1 ∙ here) none)
            ]
      ]

  escape_within : (text : List ℕ) (found : Symbols × ℕ) → escape_at d text ≡ Some found → found.1 ≤ length text
  escape_within text found h =
      let begun = BegunAt-escape_at d text found h in
      let here = escape_at-begun d good begun.inside begun.rest found.0 begun.means in
      let both : Some found ≡ Some (found.0, length begun.inside + 1) =
      sym h ∙ ap (escape_at d) begun.whole ∙ here in
      let count : found.1 ≡ length begun.inside + 1 = cc in
      omega (arith, count, ap length begun.whole, length-append begun.inside (d.escape ∷ begun.rest))

  -- a delimiter parts the encoding of a text
  reencoded_after-seam : (n : ℕ) (text rest : List ℕ) → n ≤ length text
      → reencoded_after d n (text ++ mark ∷ rest) ≡ reencoded_after d n text ++ mark ∷ reencoded d rest
  unfolding reencoded_after
  reencoded_after-seam zero [] rest within = rw (test_false mark d.escape apart) refl
  reencoded_after-seam (suc n) [] rest within = absurd (omega (arith, within))
  reencoded_after-seam (suc n) (b ∷ bs) rest within = reencoded_after-seam n bs rest (omega (arith, within))
  reencoded_after-seam zero (b ∷ bs) rest within =
      elim (eqb_tells b d.escape) [
        | inr other ↦ rw other.0 (ap (λ (l : List ℕ). b ∷ l) (reencoded_after-seam 0 bs rest (omega arith)))
        | inl same ↦
            elim (escape_cases (escape_at d bs)) [
              | inl none ↦
                  rw (same.0, escape_at-seam bs rest, none, reencoded_after-seam 0 bs rest (omega arith))
                  (sym (append_assoc (encoded_symbol d (Char d.escape)) (reencoded d bs) (mark ∷ reencoded d rest)))
              | inr some ↦
                  rw (
                    same.0,
                    escape_at-seam bs rest,
                    some.1,
                    reencoded_after-seam some.0.1 bs rest (escape_within bs some.0 some.1),
                  )
                  (sym (append_assoc (encoded_component d some.0.0) (reencoded_after d some.0.1 bs)
                  (mark ∷ reencoded d rest)))
            ]
      ]

  pub reencoded-seam : (text rest : List ℕ)
      → reencoded d (text ++ mark ∷ rest) ≡ reencoded d text ++ mark ∷ reencoded d rest
  reencoded-seam text rest = reencoded_after-seam 0 text rest (omega arith)

  pub reencoded-mark : (rest : List ℕ) → reencoded d (mark ∷ rest) ≡ mark ∷ reencoded d rest
  unfolding reencoded_after
  reencoded-mark rest = rw (test_false mark d.escape apart) refl

  -- the encoding of a join is that of its parts, joined
  reencoded-join : (parts : List (List ℕ))
      → reencoded d (join_with_byte mark parts) ≡ join_with_byte mark (map (reencoded d) parts)
  unfolding reencoded_after
  reencoded-join [] = refl
  reencoded-join (part ∷ []) = refl
  reencoded-join (part ∷ next ∷ parts) =
      reencoded-seam part (join_with_byte mark (next ∷ parts))
      ∙ ap (λ (l : List ℕ). reencoded d part ++ mark ∷ l) (reencoded-join (next ∷ parts))

  -- parts that are each encoded as their texts are
  parts_reencoded : {A : Type 0} (encode : A → List ℕ) (read : List ℕ → A) (text : List ℕ)
      → All (λ part. encode (read part) ≡ reencoded d part) (parts_of mark text)
      → join_with_byte mark (map encode (map read (parts_of mark text))) ≡ reencoded d text
  parts_reencoded encode read text each =
      ap (join_with_byte mark) (same (parts_of mark text) each)
      ∙ sym (reencoded-join (parts_of mark text)) ∙ ap (reencoded d) (join_with_byte-slice_split mark text)
    where
      same : (parts : List (List ℕ)) → All (λ part. encode (read part) ≡ reencoded d part) parts
          → map encode (map read parts) ≡ map (reencoded d) parts
      same [] h = refl
      same (part ∷ parts) h =
          let P : List ℕ → Type 0 = λ p. encode (read p) ≡ reencoded d p in
          rw (All-head P part parts h, same parts (All-tail P part parts h)) refl

-- ---- the parts of a record

module _ (d : DelimiterBytes) where
  component_reencoded : (n : ℕ) (text : List ℕ) → Lacks d.field text → Lacks d.repeat text → Lacks d.component text
      → encoded_component d (symbols_after d n text) ≡ reencoded_after d n text
  unfolding reencoded_after symbols_after
  component_reencoded zero [] field repeat component = refl
  component_reencoded (suc n) [] field repeat component = refl
  component_reencoded (suc n) (b ∷ bs) field repeat component =
      component_reencoded n bs (All-tail (λ c. c ≢ d.field) b bs field) (All-tail (λ c. c ≢ d.repeat) b bs repeat)
      (All-tail (λ c. c ≢ d.component) b bs component)
  component_reencoded zero (b ∷ bs) field repeat component =
      let more = λ (n : ℕ). component_reencoded n bs (All-tail (λ c. c ≢ d.field) b bs field)
      (All-tail (λ c. c ≢ d.repeat) b bs repeat) (All-tail (λ c. c ≢ d.component) b bs component) in
      elim (eqb_tells b d.escape) [
        | inr other ↦
            let first = char_as_is d b (All-head (λ c. c ≢ d.field) b bs field)
            (All-head (λ c. c ≢ d.repeat) b bs repeat) (All-head (λ c. c ≢ d.component) b bs component) other.1 in
            rw other.0 (rw (first, more 0) refl)
        | inl same ↦
            elim (escape_cases (escape_at d bs)) [
              | inl none ↦ rw (same.0, none, same.1, more 0) refl
              | inr some ↦
                  rw (same.0, some.1)
                  (flat_map-append (encoded_symbol d) some.0.0 (symbols_after d some.0.1 bs)
                  ∙ ap (λ (l : List ℕ). encoded_component d some.0.0 ++ l) (more some.0.1))
            ]
      ]

  module _ (good : IsDelimiters d) where
    repeat_reencoded : (text : List ℕ) → Lacks d.field text → Lacks d.repeat text
        → encoded_repeat d (components_of d text) ≡ reencoded d text
    repeat_reencoded text field repeat =
        let parts = parts_of d.component text in
        parts_reencoded d good d.component good.component_is good.component_escape (encoded_component d) (symbols_of d)
        text (λ k e below. component_reencoded 0 (get_or parts k e)
        (parts_of-Lacks d.component d.field text field k e below)
        (parts_of-Lacks d.component d.repeat text repeat k e below) (parts_of-apart d.component text k e below))

    -- a field's text
    pub field_reencoded : (text : List ℕ) → Lacks d.field text → encoded_field d (repeats_of d text) ≡ reencoded d text
    field_reencoded text field =
        let parts = parts_of d.repeat text in
        parts_reencoded d good d.repeat good.repeat_is good.repeat_escape (encoded_repeat d) (components_of d)
        text (λ k e below. repeat_reencoded (get_or parts k e) (parts_of-Lacks d.repeat d.field text field k e below)
        (parts_of-apart d.repeat text k e below))

    -- the texts of fields, each after a delimiter
    pub fields_reencoded : (parts : List (List ℕ)) → All (Lacks d.field) parts
        → more_fields d (map (repeats_of d) parts) ≡ reencoded d (flat_map (λ part. d.field ∷ part) parts)
    unfolding reencoded_after
    fields_reencoded [] apart = refl
    fields_reencoded (part ∷ parts) apart =
        let f = λ (p : List ℕ). d.field ∷ p in
        let first = field_reencoded part (All-head (Lacks d.field) part parts apart) in
        let others = fields_reencoded parts (All-tail (Lacks d.field) part parts apart) in
        rw (first, others) (ap (λ (l : List ℕ). d.field ∷ l) (joined parts)
        ∙ sym (reencoded-mark d good d.field good.field_is good.field_escape (part ++ flat_map f parts)))
      where
        joined : (parts : List (List ℕ)) → reencoded d part ++ reencoded d (flat_map (λ p. d.field ∷ p) parts)
            ≡ reencoded d (part ++ flat_map (λ p. d.field ∷ p) parts)
        joined [] = append-nil (reencoded d part) ∙ ap (reencoded d) (sym (append-nil part))
        joined (next ∷ parts) =
            let more = next ++ flat_map (λ (p : List ℕ). d.field ∷ p) parts in
            ap (λ (l : List ℕ). reencoded d part ++ l)
            (reencoded-mark d good d.field good.field_is good.field_escape more)
            ∙ sym (reencoded-seam d good d.field good.field_is good.field_escape part more)

-- ---- run by run

module _ (d : DelimiterBytes) where
  -- what holds no escape byte is encoded as it is
  pub reencoded-plain : (front rest : List ℕ) → Lacks d.escape front
      → reencoded d (front ++ rest) ≡ front ++ reencoded d rest
  unfolding reencoded_after
  reencoded-plain [] rest free = refl
  reencoded-plain (b ∷ bs) rest free =
      let P : ℕ → Type 0 = λ c. c ≢ d.escape in
      rw (
        test_false b d.escape (All-head P b bs free),
        reencoded-plain bs rest (All-tail P b bs free),
      ) refl

  pub reencoded_as_is : (text : List ℕ) → Lacks d.escape text → reencoded d text ≡ text
  unfolding reencoded_after
  reencoded_as_is text free =
      ap (reencoded d) (sym (append-nil text)) ∙ reencoded-plain text [] free ∙ append-nil text

  pub field_as_is : IsDelimiters d → (text : List ℕ) → Lacks d.field text → Lacks d.escape text
      → encoded_field d (repeats_of d text) ≡ text
  field_as_is good text field escape = field_reencoded d good text field ∙ reencoded_as_is text escape

  reencoded_after-drop : (n : ℕ) (text : List ℕ) → reencoded_after d n text ≡ reencoded d (drop n text)
  unfolding reencoded_after
  reencoded_after-drop zero [] = refl
  reencoded_after-drop zero (b ∷ bs) = refl
  reencoded_after-drop (suc n) [] = refl
  reencoded_after-drop (suc n) (b ∷ bs) = reencoded_after-drop n bs

  pub reencoded-escape : (text : List ℕ) (found : Symbols × ℕ) → escape_at d text ≡ Some found
      → reencoded d (d.escape ∷ text) ≡ encoded_component d found.0 ++ reencoded d (drop found.1 text)
  unfolding reencoded_after
  reencoded-escape text found h = rw (eq-eqb d.escape d.escape refl, h)
      (ap (λ (l : List ℕ). encoded_component d found.0 ++ l) (reencoded_after-drop found.1 text))

  pub reencoded-lone : (text : List ℕ) → escape_at d text ≡ None
      → reencoded d (d.escape ∷ text) ≡ encoded_symbol d (Char d.escape) ++ reencoded d text
  unfolding reencoded_after
  reencoded-lone text h = rw (eq-eqb d.escape d.escape refl, h) refl

  -- a byte that is no escape byte
  pub one_as_is : (text : List ℕ) → 1 ≤ length text → length text < 2 → get_or text 0 0 ≢ d.escape
      → reencoded d text ≡ get_or text 0 0 ∷ []
  one_as_is [] some few free = absurd (omega (arith, some))
  one_as_is (b ∷ []) some few free =
      reencoded_as_is (b ∷ []) (All-cons (λ c. c ≢ d.escape) b [] free (All-nil (λ c. c ≢ d.escape)))
  one_as_is (b ∷ c ∷ bs) some few free = absurd (omega (arith, few))
