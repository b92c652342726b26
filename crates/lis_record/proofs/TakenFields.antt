-- Fields that are taken one after another, and a first field that is one digit.
use Rattle.std.proofs.Common.{◌≡◌, ◌≢◌, ℕ, suc, ◌+◌, ◌-◌, ◌<◌, ◌≤◌, List, [], ◌∷◌, ◌++◌, length, map, take, drop}
use Rattle.std.proofs.Common.{None, Some, refl, sym, ap, ◌∙◌, arith, append_assoc, append-nil, length-append, true}
use Rattle.std.proofs.Common.{false, ◌==◌, Option, unwrap_or, eq-eqb, get_or, slice_get}
use Rattle.std.specs.List.{All, drop-map, flat_map, position}
use Rattle.std.proofs.lemmas.Bool.Decides.{nat_tests}
use Rattle.std.proofs.lemmas.Iterator.Adapters.{position_from-zero}
use Rattle.lis_record_values.specs.Delimiters.{is_punctuation, DelimiterBytes, IsDelimiters}
use Rattle.lis_record_values.proofs.FirstFaults.{test_false}
use Rattle.std.proofs.lemmas.Grind.{flat_map-append}
use Rattle.std.proofs.lemmas.List.{length-map, nil_from_length, take-map}
use Rattle.std.proofs.lemmas.List.Elements.{All-cons, All-nil, All-take}
use Rattle.std.proofs.Math.Seq.{drop-append_seam, take-append_seam}
use Rattle.lis_record_values.specs.Text.{trailing_byte}
use Rattle.lis_record_values.specs.declared.kinds.Kind.{Kind}
use Rattle.lis_record_values.specs.Shape.{RecordContent, plain_field}
use Rattle.lis_record.specs.Borrowed.{Borrowed, borrowed}
use Rattle.lis_record_read.specs.FrontReading.{fields_of, parts_following, parts_of, repeats_of}
use Rattle.lis_record_write.specs.Encoding.{more_fields}
use Rattle.lis_record_values.specs.Relation.{Lacks}
use Rattle.lis_record_read.proofs.FieldTexts.{plain_read, trailing-none}
use Rattle.lis_record_read.proofs.Joins.{parts_of-apart, parts_of-some}
use Rattle.lis_record_read.proofs.Places.{parts_of-first}
use Rattle.lis_record.specs.inside.Marks.{SplitsParts}
use Rattle.lis_record.specs.inside.Reencoding.{reencoded}
use Rattle.lis_record.proofs.Reencoded.{fields_reencoded, reencoded-mark}

-- ---- a first field that is one digit

pub digit-apart : (digit mark : ℕ) → 48 ≤ digit → digit ≤ 57 → is_punctuation mark ≡ true → digit ≢ mark
unfolding is_punctuation
digit-apart digit mark low high h e =
    let no : is_punctuation digit ≡ false = grind (arith, nat_tests, low, high) in
    let yes : is_punctuation digit ≡ true = rw e h in
    cc

lone_digit : (d : DelimiterBytes) → IsDelimiters d → (text : List ℕ) → 3 ≤ length text → 48 ≤ get_or text 1 0
    → get_or text 1 0 ≤ 57 → get_or text 2 0 ≡ d.field
    → (slice_get (fields_of d text) 0 ≡ Some (plain_field (get_or text 1 0 ∷ []))) × (1 < length (fields_of d text))
lone_digit d good [] long low high ends = absurd (omega arith)
lone_digit d good (a ∷ []) long low high ends = absurd (omega arith)
lone_digit d good (a ∷ b ∷ []) long low high ends = absurd (omega arith)
lone_digit d good (byte ∷ digit ∷ end ∷ rest) long low high ends =
    let lacks : (mark : ℕ) → is_punctuation mark ≡ true → Lacks mark (digit ∷ []) =
    λ mark h. All-cons (λ c. c ≢ mark) digit [] (digit-apart digit mark low high h) (All-nil (λ c. c ≢ mark)) in
    let place : position (λ b. b == d.field) (digit ∷ end ∷ rest) ≡ Some 1 =
    position_from-zero (λ (b : ℕ). b == d.field) (digit ∷ end ∷ rest)
    ∙ rw (test_false digit d.field (digit-apart digit d.field low high good.field_is), eq-eqb end d.field ends) refl in
    let first = parts_of-first d.field (digit ∷ end ∷ rest) 1
    (sym (ap (λ (o : Option ℕ). unwrap_or o (length (digit ∷ end ∷ rest))) place)) in
    let read : repeats_of d (digit ∷ []) ≡ plain_field (digit ∷ []) =
    plain_read d (digit ∷ []) (lacks d.repeat good.repeat_is) (lacks d.component good.component_is)
    (lacks d.escape good.escape_is) in
    let count = ap (λ (parts : List (List ℕ)). length (map (repeats_of d) parts)) first in (
      ap (λ (parts : List (List ℕ)). slice_get (map (repeats_of d) parts) 0) first ∙ ap Some read,
      omega (arith, count, length-map (parts_of d.field rest) (repeats_of d), parts_of-some d.field rest),
    )

-- the same of what is seen of a record that is in a text
pub lone_borrowed : (d : DelimiterBytes) → IsDelimiters d → (text : List ℕ) (kind : Kind)
    (entry : Borrowed RecordContent)
    → borrowed d (record { kind = kind; fields = fields_of d text }) ≡ entry → 3 ≤ length text → 48 ≤ get_or text 1 0
    → get_or text 1 0 ≤ 57 → get_or text 2 0 ≡ d.field
    → (slice_get entry.content.fields 0 ≡ Some (plain_field (get_or text 1 0 ∷ [])))
    × (1 < length entry.content.fields)
lone_borrowed d good text kind entry is long low high ends = rw (← is) (lone_digit d good text long low high ends)

-- ---- the texts of fields that were passed over, and what is left
pub record Passed (mark : ℕ) (text rest : List ℕ) (passed : ℕ) : Type 0 where
  pub parts : List (List ℕ)
  pub count : length parts ≡ passed
  pub joined : mark ∷ text ≡ flat_map (λ part. mark ∷ part) parts ++ rest
  pub following : parts_of mark text ≡ parts ++ parts_following mark rest
  pub next : trailing_byte mark rest ≡ None

pub passed_one : (mark : ℕ) (text part rest : List ℕ) → parts_of mark text ≡ part ∷ parts_following mark rest
    → text ≡ part ++ rest
    → trailing_byte mark rest ≡ None → Passed mark text rest 1
passed_one mark text part rest first joined next = record {
  parts = part ∷ [];
  count = refl;
  joined = ap (λ (l : List ℕ). mark ∷ l) (joined ∙ ap (λ (l : List ℕ). l ++ rest) (sym (append-nil part)));
  following = first;
  next = next;
}

pub passed_more :
    (mark : ℕ) (text rest : List ℕ) (passed : ℕ) (byte : ℕ) (following part others : List ℕ)
    → Passed mark text rest passed → rest ≡ byte ∷ following
    → parts_of mark following ≡ part ∷ parts_following mark others → following ≡ part ++ others
    → trailing_byte mark others ≡ None
    → Passed mark text others (passed + 1)
passed_more mark text rest passed byte following part others p is first joined next =
    let same : byte ≡ mark = trailing-none mark byte following rest is p.next in
    let whole : rest ≡ (mark ∷ part) ++ others = is ∙ ap (λ (b : ℕ). b ∷ following) same
    ∙ ap (λ (l : List ℕ). mark ∷ l) joined in
    let f = λ (l : List ℕ). mark ∷ l in
    let one : flat_map f (part ∷ []) ≡ mark ∷ part = append-nil (mark ∷ part) in
    record {
      parts = p.parts ++ part ∷ [];
      count = length-append p.parts (part ∷ []) ∙ ap (λ (n : ℕ). n + 1) p.count;
      joined =
          p.joined ∙ ap (λ (l : List ℕ). flat_map f p.parts ++ l) whole
          ∙ sym (append_assoc (flat_map f p.parts) (mark ∷ part) others)
          ∙ ap (λ (l : List ℕ). (flat_map f p.parts ++ l) ++ others) (sym one)
          ∙ ap (λ (l : List ℕ). l ++ others) (sym (flat_map-append f p.parts (part ∷ [])));
      following =
          p.following ∙ ap (λ (l : List ℕ). p.parts ++ parts_following mark l) is
          ∙ ap (λ (l : List (List ℕ)). p.parts ++ l) first
          ∙ sym (append_assoc p.parts (part ∷ []) (parts_following mark others));
      next = next;
    }

-- fewer bytes are left
pub passed_within : (mark : ℕ) (text rest : List ℕ) (passed : ℕ) → Passed mark text rest passed → 0 < passed
    → length rest ≤ length text
passed_within mark text rest passed p some = by p.parts p.count p.joined
  where
    by : (parts : List (List ℕ)) → length parts ≡ passed → mark ∷ text ≡ flat_map (λ part. mark ∷ part) parts ++ rest
        → length rest ≤ length text
    by [] e joined = absurd (omega (arith, e, some))
    by (part ∷ parts) e joined =
        let more = flat_map (λ (l : List ℕ). mark ∷ l) parts in
        let whole : text ≡ (part ++ more) ++ rest = cc in
        omega (arith, ap length whole, length-append (part ++ more) rest)

-- the bytes that were passed over
taken_text : (mark : ℕ) (text rest front : List ℕ) → mark ∷ text ≡ front ++ rest → 0 ≢ length front
    → mark ∷ take (length text - length rest) text ≡ front
taken_text mark text rest [] whole some = absurd (some refl)
taken_text mark text rest (byte ∷ front) whole some =
    let same : byte ≡ mark = cc in
    let tail : text ≡ front ++ rest = cc in
    let at : length text - length rest ≡ length front = omega (arith, length-append front rest, ap length tail) in
    rw (at, tail, same) (ap (λ (l : List ℕ). mark ∷ l) (take-append_seam front rest))

-- so many parts, and those after them
pub taken_parts :
    (mark byte count : ℕ) (all text rest taken : List ℕ) → all ≡ byte ∷ text → Passed mark text rest count → 0 < count
    → taken ≡ take (length text - length rest + 1) all
    → (count ≤ length (parts_following mark all))
    × (mark ∷ drop 1 taken ≡ flat_map (λ part. mark ∷ part) (take count (parts_following mark all)))
    × (parts_following mark rest ≡ drop count (parts_following mark all))
taken_parts mark byte count all text rest taken whole p some cut =
    let more : length text - length rest + 1 ≡ suc (length text - length rest) = omega arith in
    let is : drop 1 taken ≡ take (length text - length rest) text =
    ap (drop 1) cut ∙ ap (λ (n : ℕ). drop 1 (take n all)) more
    ∙ ap (λ (l : List ℕ). drop 1 (take (suc (length text - length rest)) l)) whole in
    let f = λ (part : List ℕ). mark ∷ part in
    let others = parts_following mark rest in
    let parts : parts_following mark all ≡ p.parts ++ others = ap (parts_following mark) whole ∙ p.following in
    rw (parts, ← p.count) (
      omega (arith, length-append p.parts others),
      ap (λ (l : List ℕ). mark ∷ l) is
          ∙ taken_text mark text rest (flat_map f p.parts) p.joined (filled p.parts p.count)
          ∙ ap (flat_map f) (sym (take-append_seam p.parts others)),
      sym (drop-append_seam p.parts others),
    )
  where
    filled : (parts : List (List ℕ)) → length parts ≡ count → 0 ≢ length (flat_map (λ part. mark ∷ part) parts)
    filled [] e none = absurd (omega (arith, e, some))
    filled (part ∷ parts) e none = absurd (omega arith)

-- no part is left
pub fewer_parts : (mark byte passed left count : ℕ) (all text rest : List ℕ) → all ≡ byte ∷ text
    → Passed mark text rest passed → length rest ≡ 0 → passed + left ≡ count → 0 < left
    → length (parts_following mark all) < count
fewer_parts mark byte passed left count all text rest whole p none sum some =
    let parts : parts_following mark all ≡ p.parts ++ [] =
    ap (parts_following mark) whole ∙ p.following
    ∙ ap (λ (l : List ℕ). p.parts ++ parts_following mark l) (nil_from_length rest none) in
    rw parts (omega (arith, ap length (append-nil p.parts), p.count, sum, some))

-- the encoding of so many fields
pub fields_added : (d : DelimiterBytes) → IsDelimiters d → (all taken : List ℕ) (count : ℕ)
    → d.field ∷ taken ≡ flat_map (λ part. d.field ∷ part) (take count (parts_following d.field all))
    → d.field ∷ reencoded d taken ≡ more_fields d (take count (fields_of d all))
fields_added d good all taken count whole =
    let parts = parts_following d.field all in
    sym (reencoded-mark d good d.field good.field_is good.field_escape taken) ∙ ap (reencoded d) whole
    ∙ sym (fields_reencoded d good (take count parts) (All-take (Lacks d.field) count parts (apart all)))
    ∙ ap (more_fields d) (sym (take-map (repeats_of d) count parts))
  where
    apart : (text : List ℕ) → All (Lacks d.field) (parts_following d.field text)
    apart [] = All-nil (Lacks d.field)
    apart (byte ∷ bytes) = parts_of-apart d.field bytes

-- what is added for so many fields, and the fields that are left
pub fields_taken : (d : DelimiterBytes) → IsDelimiters d → (old new all taken rest : List ℕ) (count : ℕ)
    → SplitsParts d.field count all taken rest → new ≡ old ++ d.field ∷ reencoded d (drop 1 taken)
    → (new ≡ old ++ more_fields d (take count (fields_of d all))) × (fields_of d rest ≡ drop count (fields_of d all))
fields_taken d good old new all taken rest count split is = (
  is ∙ ap (λ (l : List ℕ). old ++ l) (fields_added d good all (drop 1 taken) count split.1),
  ap (map (repeats_of d)) split.2 ∙ sym (drop-map (repeats_of d) count (parts_following d.field all)),
)
