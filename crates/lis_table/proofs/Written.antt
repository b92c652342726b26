-- A table that is written entry by entry, as far as it has room; and bytes that end no component.
use Rattle.std.proofs.Common.{◌≡◌, ℕ, zero, suc, ◌+◌, ◌==◌, ◌||◌, Bool, true, false, List, [], ◌∷◌}
use Rattle.std.proofs.Common.{◌++◌}
use Rattle.std.proofs.Common.{length, take, drop, refl, sym, ap, ◌∙◌, arith, add-one}
use Rattle.std.specs.Prelude.{slice_set}
use Rattle.std.specs.List.{All}
use Rattle.std.proofs.lemmas.List.{drop-drop, length-drop, take_all}
use Rattle.std.proofs.lemmas.List.Elements.{All-head, All-tail}
use Rattle.lis_record_values.specs.Delimiters.{DelimiterBytes}
use Rattle.lis_table.specs.declared.table.LisPart.{LisPart}
use Rattle.lis_table.specs.inside.Scan.{longer, scanned}
use Rattle.lis_record_read.specs.inside.FrontReading.{stops}

take-none : (n : ℕ) → take {A = LisPart} n [] ≡ []
take-none zero = refl
take-none (suc n) = refl

drop-none : (n : ℕ) → drop {A = LisPart} n [] ≡ []
drop-none zero = refl
drop-none (suc n) = refl

-- what so many entries make of a table
abbrev pub written : (table before : List LisPart) → ℕ → List LisPart
written table before count = take (length before) (take count table) ++ drop count before

pub written-none : (table before : List LisPart) → before ≡ written table before 0
written-none table before = ap (λ (l : List LisPart). l ++ before) (sym (take-none (length before)))

-- one more is put
set-written : (table before : List LisPart) (count : ℕ) (p : LisPart) (rest : List LisPart) → drop count table
    ≡ p ∷ rest
    → slice_set (written table before count) count p ≡ written table before (suc count)
set-written table [] zero p rest e = refl
set-written table [] (suc count) p rest e = refl
set-written table (o ∷ before) zero p rest e = rw (e, take-none (length before)) refl
set-written [] (o ∷ before) (suc count) p rest e = cc
set-written (x ∷ table) (o ∷ before) (suc count) p rest e =
    ap (λ (l : List LisPart). x ∷ l) (set-written table before count p rest e)

pub put-written : (table before out new : List LisPart) (count : ℕ) (p : LisPart) (rest : List LisPart)
    → drop count table ≡ p ∷ rest → out ≡ written table before count → new ≡ slice_set out count p
    → new ≡ written table before (count + 1)
put-written table before out new count p rest e was is =
    is ∙ ap (λ (l : List LisPart). slice_set l count p) was ∙ set-written table before count p rest e
    ∙ ap (written table before) (sym (add-one count))

pub drop-next : (table : List LisPart) (count : ℕ) (p : LisPart) (rest : List LisPart) → drop count table ≡ p ∷ rest
    → drop (count + 1) table ≡ rest
drop-next table count p rest e = sym (drop-drop 1 count table) ∙ ap (drop 1) e

-- the last one was put
pub last-length : (table : List LisPart) (count : ℕ) (p : LisPart) → drop count table ≡ p ∷ []
    → count + 1 ≡ length table
last-length table count p e = omega (arith, length-drop count table, ap length e)

pub last-written : (table before : List LisPart) (count : ℕ) → count ≡ length table
    → written table before count ≡ take (length before) table ++ drop count before
last-written table before count e =
    ap (λ (l : List LisPart). take (length before) l ++ drop count before) (take_all count table (omega arith))

-- ---- bytes that end no component

module _ (d : DelimiterBytes) where
  record NoStop (b : ℕ) : Type 0 where
    field : (b == d.field) ≡ false
    repeat : (b == d.repeat) ≡ false
    component : (b == d.component) ≡ false
    escape : (b == d.escape) ≡ false

  no_stop : (b : ℕ) → stops d d.escape b ≡ false → NoStop b
  no_stop b h = by (b == d.field) (b == d.repeat) (b == d.component) (b == d.escape) refl refl refl refl h
    where
      by : (s t v w : Bool) → (b == d.field) ≡ s → (b == d.repeat) ≡ t → (b == d.component) ≡ v → (b == d.escape) ≡ w
          → ((s || t) || (v || w)) ≡ false → NoStop b
      by true t v w a e i o h = cc h
      by false true v w a e i o h = cc h
      by false false true w a e i o h = cc h
      by false false false true a e i o h = cc h
      by false false false false a e i o h = record { field = a; repeat = e; component = i; escape = o }

  with_len : (p : LisPart) (n m : ℕ) → n ≡ m → record p { len = n } ≡ record p { len = m }
  with_len p n m e = ap (λ (k : ℕ). record p { len = k }) e

  pub scanned-free : (p : LisPart) (xs ys : List ℕ) → All (λ b. stops d d.escape b ≡ false) xs
      → scanned d p (xs ++ ys) ≡ scanned d (record p { len = p.len + length xs }) ys
  scanned-free p [] ys free =
      let same : p.len ≡ p.len + 0 = omega arith in
      ap (λ (q : LisPart). scanned d q ys) (with_len p p.len (p.len + 0) same)
  scanned-free p (x ∷ xs) ys free =
      let no = no_stop x (All-head (λ b. stops d d.escape b ≡ false) x xs free) in
      let longer_is : longer d p x ≡ record p { len = p.len + 1 } = rw no.escape refl in
      let size : p.len + 1 + length xs ≡ p.len + suc (length xs) = omega arith in
      let step : scanned d p (x ∷ (xs ++ ys)) ≡ scanned d (longer d p x) (xs ++ ys) =
      rw (no.field, no.repeat, no.component) refl in
      step
      ∙ ap (λ (q : LisPart). scanned d q (xs ++ ys)) longer_is
      ∙ scanned-free (record p { len = p.len + 1 }) xs ys (All-tail (λ b. stops d d.escape b ≡ false) x xs free)
      ∙ ap (λ (q : LisPart). scanned d q ys) (with_len p (p.len + 1 + length xs) (p.len + suc (length xs)) size)
