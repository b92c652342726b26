-- The first part of a text that delimiters were put after is that of the text.
use Rattle.std.proofs.Common.{◌≡◌, ◌≤◌, ◌<◌, ℕ, zero, suc, ◌+◌, ◌-◌, ◌==◌, Bool, true, false, None, Some, Option}
use Rattle.std.proofs.Common.{List, [], ◌∷◌, ◌++◌, length, take, drop, replicate, ap, sym, refl, ◌∙◌, arith, eq-eqb}
use Rattle.std.proofs.Common.{append-nil, map, take-append-drop, length-take}
use Rattle.std.specs.List.{position}
use Rattle.std.specs.Option.{unwrap_or}
use Rattle.std.proofs.Math.Seq.{drop-append-add, drop-append_seam}
use Rattle.std.proofs.lemmas.Bool.{eqb-true}
use Rattle.std.proofs.lemmas.List.{append_assoc, drop-append-le, drop-drop, length-append, length-drop}
use Rattle.std.proofs.lemmas.List.Splits.{slice_split_at}
use Rattle.lis_record_values.specs.Delimiters.{DelimiterBytes}
use Rattle.lis_record_values.specs.declared.kinds.Kind.{Kind}
use Rattle.lis_record_values.specs.Shape.{RecordContent, Repeats}
use Rattle.lis_record_values.specs.Text.{trailing_byte}
use Rattle.lis_record_values.specs.Relation.{Lacks}
use Rattle.lis_record_read.specs.FrontReading.{fields_of, parts_following, parts_of, repeats_of}
use Rattle.lis_record_read.specs.inside.FrontReading.{EndsWith, TakesField}
use Rattle.lis_record_read.proofs.FieldTexts.{Lacks-first, part_following-mark}
use Rattle.lis_record_read.proofs.Joins.{Lacks-tests}
use Rattle.lis_record_read.proofs.Places.{IsFound-position, parts_of-first}

-- a text begins with this part, which ends there
pub record Begins (mark : ℕ) (text : List ℕ) (end : ℕ) (part : List ℕ) : Type 0 where
  pub within : end ≤ length text
  pub same : part ≡ take end text
  pub parts : parts_of mark text ≡ part ∷ parts_following mark (drop end text)

same_heads : {A : Type 0} (a b : A) (xs ys : List A) → a ∷ xs ≡ b ∷ ys → a ≡ b
same_heads a b xs ys e = cc

module _ (mark : ℕ) (text : List ℕ) where
  abbrev first : ℕ
  first = unwrap_or (position (λ b. b == mark) text) (length text)

  first-within : first ≤ length text
  first-within = go (position (λ b. b == mark) text) refl
    where
      go : (o : Option ℕ) → position (λ b. b == mark) text ≡ o → unwrap_or o (length text) ≤ length text
      go None e = omega arith
      go (Some n) e = omega (arith, (IsFound-position mark text n e).within)

  first-parts : parts_of mark text ≡ take first text ∷ parts_following mark (drop first text)
  first-parts = parts_of-first mark text first refl

  free : Lacks mark (take first text)
  free = Lacks-first mark text (take first text) (drop first text) first-parts

  begins : Begins mark text first (take first text)
  begins = record { within = first-within; same = refl; parts = first-parts }

  -- a delimiter follows what is before the first, whatever was put there
  following : (rest more : List ℕ) (b : ℕ) → text ++ rest ≡ take first text ++ b ∷ more → b ≡ mark
      → parts_of mark (text ++ rest) ≡ take first text ∷ parts_of mark more
  following rest more b whole is =
      ap (parts_of mark) whole
      ∙ slice_split_at (λ b. b == mark) (take first text) b more (Lacks-tests mark (take first text) free)
      (eq-eqb b mark is)

  joined : (rest tail : List ℕ) → drop first text ≡ tail → text ++ rest ≡ take first text ++ (tail ++ rest)
  joined rest tail is =
      ap (λ (l : List ℕ). l ++ rest) (sym (take-append-drop first text))
      ∙ append_assoc (take first text) (drop first text) rest
      ∙ ap (λ (l : List ℕ). take first text ++ (l ++ rest)) is

  marked : (b : ℕ) (bs : List ℕ) → trailing_byte mark (b ∷ bs) ≡ None → b ≡ mark
  marked b bs none = by (b == mark) refl none
    where
      by : (test : Bool) → (b == mark) ≡ test → trailing_byte mark (b ∷ bs) ≡ None → b ≡ mark
      by true t e = eqb-true b mark t
      by false t e = let some : Some b ≡ None = rw t at e in cc

  -- what parts the padded text has begins with that part
  module _ (count : ℕ) where
    abbrev padded : List ℕ
    padded = text ++ replicate (suc count) mark

    padded-parts : (others : List (List ℕ)) × (parts_of mark padded ≡ take first text ∷ others)
    padded-parts = go (drop first text) refl
      where
        go : (tail : List ℕ) → drop first text ≡ tail
            → (others : List (List ℕ)) × (parts_of mark padded ≡ take first text ∷ others)
        go [] is = (
          parts_of mark (replicate count mark),
          following (replicate (suc count) mark) (replicate count mark) mark
              (joined (replicate (suc count) mark) [] is) refl,
        )
        go (b ∷ bs) is = (
          parts_of mark (bs ++ replicate (suc count) mark),
          following (replicate (suc count) mark) (bs ++ replicate (suc count) mark) b
              (joined (replicate (suc count) mark) (b ∷ bs) is)
              (marked b bs (rw is at (part_following-mark mark text first refl))),
        )

    module _ (end : ℕ) (others : List (List ℕ)) (bound : end < length padded)
        (is : parts_of mark padded ≡ take end padded ∷ others) where
      same : take end padded ≡ take first text
      same = same_heads (take end padded) (take first text) others padded-parts.0 (sym is ∙ padded-parts.1)

      at : end ≡ first
      at =
          omega (
            arith,
            first-within,
            bound,
            length-take end padded,
            length-take first text,
            ap (λ (l : List ℕ). length l) same,
          )

      pub padded-begins : Begins mark text end (take end padded)
      padded-begins = rw (same, at) begins

-- the same where none were put there
pub begins_padded : {mark end : ℕ} {text padded : List ℕ} (count : ℕ) → padded ≡ text ++ replicate count mark
    → end < length padded → parts_of mark padded ≡ take end padded ∷ parts_following mark (drop end padded)
    → Begins mark text end (take end padded)
begins_padded {mark} {end} {text} {padded} zero is bound parts =
    let same : padded ≡ text = is ∙ append-nil text in
    record {
      within = omega (arith, bound, ap (λ (l : List ℕ). length l) same);
      same = ap (take end) same;
      parts =
          sym (ap (parts_of mark) same) ∙ parts
          ∙ ap (λ (l : List ℕ). take end padded ∷ parts_following mark (drop end l)) same;
    }
begins_padded {mark} {end} {text} {padded} (suc count) is bound parts =
    rw is
    (padded-begins mark text count end (parts_following mark (drop end (text ++ replicate (suc count) mark)))
    (rw is at bound) (rw is at parts))

-- ---- the last bytes of a text with sixteen delimiters after them

-- what a text ends with is at its end
at-end : (text last : List ℕ) → EndsWith text last → drop (length text - length last) text ≡ last
at-end text last ends =
    let front : List ℕ = ends.0 in
    let before : length text - length last ≡ length front =
    omega (arith, ap (λ (l : List ℕ). length l) ends.1, length-append front last) in
    ap (λ (n : ℕ). drop n text) before ∙ ap (drop (length front)) ends.1 ∙ drop-append_seam front last

-- the end of an end
pub ends-on : (text more last : List ℕ) → EndsWith text more → EndsWith more last → EndsWith text last
ends-on text more last ends on = (
  ends.0 ++ on.0,
  ends.1 ∙ ap (λ (l : List ℕ). ends.0 ++ l) on.1 ∙ sym (append_assoc ends.0 on.0 last),
)

-- a record that takes the first part as a field
pub takes_part : (d : DelimiterBytes) (before after : RecordContent) (text part rest : List ℕ) → text ≡ part ++ rest
    → length rest ≤ length text → parts_of d.field text ≡ part ∷ parts_following d.field rest
    → after ≡ record before { fields = before.fields ++ repeats_of d part ∷ [] } → TakesField d before after text rest
takes_part d before after text part rest joined shorter parts is = record {
  kind_is = ap (λ (r : RecordContent). r.kind) is;
  fields =
      ap (λ (r : RecordContent). r.fields ++ fields_of d rest) is
      ∙ append_assoc before.fields (repeats_of d part ∷ []) (fields_of d rest)
      ∙ ap (λ (l : List (List ℕ)). before.fields ++ map (repeats_of d) l) (sym parts);
  ends = (part, joined);
  shorter = shorter;
}

takes_field : (d : DelimiterBytes) (before after : RecordContent) (text rest part : List ℕ) (end : ℕ)
    → Begins d.field text end part → after ≡ record before { fields = before.fields ++ repeats_of d part ∷ [] }
    → rest ≡ drop end text → TakesField d before after text rest
takes_field d before after text rest part end found is left =
    let whole = ap (λ (l : List ℕ). l ++ rest) found.same ∙ ap (λ (l : List ℕ). take end text ++ l) left
    ∙ take-append-drop end text in
    takes_part d before after text part rest (sym whole)
    (omega (arith, ap (λ (l : List ℕ). length l) left, length-drop end text))
    (found.parts ∙ ap (λ (l : List ℕ). part ∷ parts_following d.field l) (sym left)) is

-- the same, where the part was found with delimiters after it
pub takes_padded : {d : DelimiterBytes} {before after : RecordContent} {end : ℕ} {text padded rest : List ℕ}
    {field : Repeats} (count : ℕ) → padded ≡ text ++ replicate count d.field → end < length padded
    → parts_of d.field padded ≡ take end padded ∷ parts_following d.field (drop end padded)
    → field ≡ repeats_of d (take end padded) → after ≡ record before { fields = before.fields ++ field ∷ [] }
    → rest ≡ drop end text → TakesField d before after text rest
takes_padded {d} {before} {after} {end} {text} {padded} {rest} count is bound parts read took left =
    takes_field d before after text rest (take end padded) end (begins_padded count is bound parts)
    (took ∙ ap (λ (f : Repeats). record before { fields = before.fields ++ f ∷ [] }) read) left

pub end-padded : (text front kept marks last : List ℕ) (count : ℕ) → count ≤ 16 → count ≤ length text
    → length front ≡ 16 - count → kept ≡ drop (length text - count) text → EndsWith text last → length last ≤ count
    → drop (16 - length last) (front ++ (kept ++ marks)) ≡ last ++ marks
end-padded text front kept marks last count few room long is ends some =
    let past : 16 - length last ≡ length front + (count - length last) = omega (arith, long) in
    let whole : length kept ≡ count =
    ap (λ (l : List ℕ). length l) is ∙ length-drop (length text - count) text ∙ omega arith in
    let following : length text - count + (count - length last) ≡ length text - length last = omega arith in
    ap (λ (n : ℕ). drop n (front ++ (kept ++ marks))) past
    ∙ drop-append-add front (kept ++ marks) (count - length last)
    ∙ drop-append-le (count - length last) kept marks (omega (arith, whole))
    ∙ ap (λ (l : List ℕ). drop (count - length last) l ++ marks) is
    ∙ ap (λ (l : List ℕ). l ++ marks) (drop-drop (count - length last) (length text - count) text
    ∙ ap (λ (n : ℕ). drop n text) following ∙ at-end text last ends)

-- ---- the fields of a record, taken one after another

-- the fields so far, and those that are left at the text's end, are all; its last bytes are before delimiters
pub record Reading (d : DelimiterBytes) (kind : Kind) (content : RecordContent) (end rest text : List ℕ) : Type 0 where
  pub kind_is : content.kind ≡ kind
  pub fields : content.fields ++ map (repeats_of d) (parts_following d.field rest) ≡ fields_of d text
  pub ends : EndsWith text rest
  pub padded : (last : List ℕ) → EndsWith text last → length last ≤ 16
      → drop (16 - length last) end ≡ last ++ replicate 16 d.field

-- what is after the delimiter that is next
pub reading_on : (text rest more : List ℕ) (delimiter : ℕ) → EndsWith text rest → rest ≡ delimiter ∷ more
    → EndsWith text more
reading_on text rest more delimiter ends is = ends-on text rest more ends (delimiter ∷ [], is)

-- one field is taken
pub reading_next : (d : DelimiterBytes) (kind : Kind) (before after : RecordContent)
    (end rest more others text : List ℕ) (delimiter : ℕ) → Reading d kind before end rest text
    → rest ≡ delimiter ∷ more → TakesField d before after more others → Reading d kind after end others text
reading_next d kind before after end rest more others text delimiter r is took = record {
  kind_is = took.kind_is ∙ r.kind_is;
  fields =
      took.fields ∙ sym (ap (λ (l : List ℕ). before.fields ++ fields_of d l) is) ∙ r.fields;
  ends = ends-on text more others (reading_on text rest more delimiter r.ends is) took.ends;
  padded = r.padded;
}
