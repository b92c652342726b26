-- Texts joined by a delimiter, and the parts round it.
use Rattle.std.proofs.Common.{◌≡◌, ◌≢◌, ℕ, ◌<◌, ◌==◌, false, inl, inr, List, [], ◌∷◌, ◌++◌, map, length, refl, sym}
use Rattle.std.proofs.Common.{ap, ◌∙◌, eq-eqb, arith, append-nil}
use Rattle.std.proofs.lemmas.Bool.Decides.{eqb_tells}
use Rattle.std.proofs.lemmas.List.Elements.{All-head, All-tail, All-cons, All-nil, All-weaker}
use Rattle.std.proofs.lemmas.List.Splits.{slice_split_none, slice_split_at, join_with_byte-slice_split}
use Rattle.std.specs.List.{All, AllZip, flat_map, join_with_byte, onto_first}
use Rattle.lis_record_read.specs.FrontReading.{parts_of}
use Rattle.lis_record_values.specs.Relation.{Lacks, IsJoined}

-- ---- the parts of a text round a byte

onto_first-some : (b : ℕ) (parts : List (List ℕ)) → 0 < length (onto_first b parts)
onto_first-some b [] = omega arith
onto_first-some b (part ∷ parts) = omega arith

pub parts_of-some : (byte : ℕ) (text : List ℕ) → 0 < length (parts_of byte text)
parts_of-some byte [] = omega arith
parts_of-some byte (b ∷ bs) =
    elim (eqb_tells b byte) [
      | inl same ↦ rw same.0 (omega arith)
      | inr other ↦ rw other.0 (onto_first-some b (parts_of byte bs))
    ]

pub onto_first-apart : (byte b : ℕ) → b ≢ byte → (parts : List (List ℕ)) → All (Lacks byte) parts
    → All (Lacks byte) (onto_first b parts)
onto_first-apart byte b other [] h = All-cons (Lacks byte) (b ∷ []) []
    (All-cons (λ c. c ≢ byte) b [] other (All-nil (λ c. c ≢ byte))) (All-nil (Lacks byte))
onto_first-apart byte b other (part ∷ parts) h =
    All-cons (Lacks byte) (b ∷ part) parts (All-cons (λ c. c ≢ byte) b part other
    (All-head (Lacks byte) part parts h)) (All-tail (Lacks byte) part parts h)

-- none of them holds the byte
pub parts_of-apart : (byte : ℕ) (text : List ℕ) → All (Lacks byte) (parts_of byte text)
parts_of-apart byte [] = All-cons (Lacks byte) [] [] (All-nil (λ c. c ≢ byte)) (All-nil (Lacks byte))
parts_of-apart byte (b ∷ bs) =
    let more = parts_of-apart byte bs in
    elim (eqb_tells b byte) [
      | inl same ↦ rw same.0 (All-cons (Lacks byte) [] (parts_of byte bs) (All-nil (λ c. c ≢ byte)) more)
      | inr other ↦ rw other.0 (onto_first-apart byte b other.1 (parts_of byte bs) more)
    ]

pub Lacks-tests : (byte : ℕ) (text : List ℕ) → Lacks byte text → All (λ b. (b == byte) ≡ false) text
Lacks-tests byte text h =
    All-weaker (λ b. b ≢ byte) (λ b. (b == byte) ≡ false)
    (λ b other. elim (eqb_tells b byte) [ inl same ↦ absurd (other same.1) | inr test ↦ test.0 ]) text h

-- parts that hold no delimiter are those of their join
pub parts_of-join : (byte : ℕ) (parts : List (List ℕ)) → 0 < length parts → All (Lacks byte) parts
    → parts_of byte (join_with_byte byte parts) ≡ parts
parts_of-join byte [] some h = absurd (omega arith)
parts_of-join byte (x ∷ []) some h = slice_split_none (λ b. b == byte) x
    (Lacks-tests byte x (All-head (Lacks byte) x [] h))
parts_of-join byte (x ∷ y ∷ xs) some h =
    slice_split_at (λ b. b == byte) x byte (join_with_byte byte (y ∷ xs))
    (Lacks-tests byte x (All-head (Lacks byte) x (y ∷ xs) h)) (eq-eqb byte byte refl)
    ∙ ap (λ (l : List (List ℕ)). x ∷ l) (parts_of-join byte (y ∷ xs) (omega arith) (All-tail (Lacks byte) x (y ∷ xs) h))

-- ---- an item for each part

module _ {A : Type 0} (IsItem : List ℕ → A → Type 0) (f : List ℕ → A) where
  pub AllZip-map : ((text : List ℕ) → IsItem text (f text)) → (parts : List (List ℕ))
      → AllZip IsItem parts (map f parts)
  AllZip-map found [] = tt
  AllZip-map found (part ∷ parts) = (found part, AllZip-map found parts)

  pub map-AllZip : ((text : List ℕ) (item : A) → IsItem text item → item ≡ f text)
      → (parts : List (List ℕ)) (items : List A) → AllZip IsItem parts items → items ≡ map f parts
  map-AllZip only [] [] h = refl
  map-AllZip only [] (item ∷ items) h = absurd h
  map-AllZip only (part ∷ parts) [] h = absurd h
  map-AllZip only (part ∷ parts) (item ∷ items) h = rw (only part item h.0, map-AllZip only parts items h.1) refl

  -- what reading each part gives is related to the whole
  pub IsJoined-map : ((text : List ℕ) → IsItem text (f text)) → (byte : ℕ) (text : List ℕ)
      → IsJoined byte IsItem text (map f (parts_of byte text))
  IsJoined-map found byte text = record {
    parts = parts_of byte text;
    some = parts_of-some byte text;
    joined = sym (join_with_byte-slice_split byte text);
    apart = parts_of-apart byte text;
    each = AllZip-map found (parts_of byte text);
  }

  -- nothing else is
  pub map-IsJoined : ((text : List ℕ) (item : A) → IsItem text item → item ≡ f text)
      → (byte : ℕ) (text : List ℕ) (items : List A) → IsJoined byte IsItem text items
      → items ≡ map f (parts_of byte text)
  map-IsJoined only byte text items h =
      map-AllZip only h.parts items h.each
      ∙ ap (map f) (sym (ap (parts_of byte) h.joined ∙ parts_of-join byte h.parts h.some h.apart))

-- ---- parts after a delimiter each

-- a delimiter before each part is one before their join
pub flat_map-join : (byte : ℕ) (part : List ℕ) (parts : List (List ℕ))
    → flat_map (λ p. byte ∷ p) (part ∷ parts) ≡ byte ∷ join_with_byte byte (part ∷ parts)
flat_map-join byte part [] = ap (λ (l : List ℕ). byte ∷ l) (append-nil part)
flat_map-join byte part (next ∷ parts) = ap (λ (l : List ℕ). byte ∷ part ++ l) (flat_map-join byte next parts)
