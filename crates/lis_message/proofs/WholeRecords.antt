-- Where no record that may come next is whole in the bytes: their first line is rejected, or they have none.
use Rattle.std.proofs.Common.{◌≡◌, ◌≢◌, ℕ, zero, suc, ◌≤◌, inl, inr, List, [], ◌∷◌, ◌++◌, length, Option, Some, None}
use Rattle.std.proofs.Common.{Bool, true, false, not, option_map, refl, sym, ◌∙◌, ap, arith, take, drop, get_or}
use Rattle.std.proofs.Common.{subst, take-append-drop}
use Rattle.std.proofs.lemmas.Bool.{cases_lt}
use Rattle.std.proofs.lemmas.List.Quantifiers.{position-Some}
use Rattle.std.proofs.lemmas.List.Elements.{All-head, All-tail}
use Rattle.std.specs.Option.{option_or}
use Rattle.std.specs.Prelude.{if◌then◌else◌}
use Rattle.lis_record_values.proofs.FirstFaults.{option_or-none}
use Rattle.lis_record_values.specs.Kinds.{kind_of}
use Rattle.lis_record.proofs.FaultLaws.{record_text_fault-none}
use Rattle.lis_record_values.specs.declared.faults.RecordFault.TheVariants as record_faults
use Rattle.lis_record.specs.Faults.{is_other_kind, record_fault, record_text_fault}
use Rattle.lis_record_values.specs.Text.{trailing_byte}
use Rattle.lis_record_values.specs.Text.{IsRecordText, bad_byte_place, is_text_byte, record_limit}
use Rattle.lis_record_values.specs.Delimiters.{DelimiterBytes}
use Rattle.lis_record_values.specs.declared.faults.Reason.{Reason}
use Rattle.lis_record_values.specs.declared.faults.Reason.TheVariants as reasons
use Rattle.lis_tree.specs.Begun.{Begun}
use Rattle.lis_message.specs.Records.{IsRecordRefused, IsRecordRefusedFor}
use Rattle.lis_message.specs.Stream.{refusal}
use Rattle.lis_message.specs.Stream.{LacksReturn}
use Rattle.lis_message.proofs.Lines.{line_one, no_return_in, text_lacks}
use Rattle.lis_message.proofs.EveryStream.{header_open, inside_kind, outside_kind}

-- a text that nothing rejects has text bytes alone
text_of_record : (d : DelimiterBytes) (text : List ℕ) → record_fault d text ≡ None → record_text_fault text ≡ None
unfolding record_fault
text_of_record d [] none = cc
text_of_record d (letter ∷ bytes) none =
    let rest =
    option_or-none (if is_other_kind (kind_of letter) then None else Some (record_faults.UnknownKind letter))
    (option_or (option_map record_faults.UnknownKind (trailing_byte d.field bytes))
    (record_text_fault (letter ∷ bytes)))
    none in
    (option_or-none (option_map record_faults.UnknownKind (trailing_byte d.field bytes))
    (record_text_fault (letter ∷ bytes)) rest.1).1

text_of_none : (left : Option Begun) (text : List ℕ) → refusal left text ≡ None → record_text_fault text ≡ None
unfolding refusal
text_of_none left [] none = cc
text_of_none None (letter ∷ bytes) none =
    let outside = outside_kind letter (kind_of letter) (letter ∷ bytes) none in
    (header_open letter bytes outside.none).1
text_of_none (Some b) (letter ∷ bytes) none =
    let inside = inside_kind b letter (kind_of letter) (letter ∷ bytes) none in
    text_of_record b.delimiters (letter ∷ bytes) inside.fine

-- a text with another byte is rejected
byte_in : (front more : List ℕ) (byte : ℕ) → IsRecordText (front ++ byte ∷ more) → is_text_byte byte ≡ true
byte_in [] more byte all = All-head (λ b. is_text_byte b ≡ true) byte more all
byte_in (x ∷ front) more byte all =
    byte_in front more byte (All-tail (λ b. is_text_byte b ≡ true) x (front ++ byte ∷ more) all)

byte_refused : (left : Option Begun) (text front more : List ℕ) (byte : ℕ) → text ≡ front ++ byte ∷ more
    → is_text_byte byte ≡ false → IsRecordRefused left text
byte_refused left text front more byte whole bad =
    elim (cases_lt record_limit (length text)) [
      | inl long ↦ (reasons.RecordTooLong, inl (refl, long))
      | inr short ↦ by (refusal left text) refl (omega arith)
    ]
  where
    by : (found : Option Reason) → refusal left text ≡ found → length text ≤ record_limit
        → IsRecordRefused left text
    by (Some reason) is short = (reason, inr (is, short))
    by None is short =
        let all = (record_text_fault-none text (text_of_none left text is)).0 in
        let good = byte_in front more byte (subst IsRecordText whole all) in
        absurd (let clash : true ≡ false = sym good ∙ bad in cc clash)

-- the first byte that is no text byte is before the first CR, where it is no CR
before_return : (front rest text following : List ℕ) (byte : ℕ) → byte ≢ 13 → LacksReturn front
    → front ++ byte ∷ rest ≡ text ++ 13 ∷ following → (more : List ℕ) × (text ≡ front ++ byte ∷ more)
before_return [] rest [] following byte other lacks e = absurd (other (let h : byte ≡ 13 = cc in h))
before_return [] rest (y ∷ text) following byte other lacks e = (text, let h : y ≡ byte = cc in rw h refl)
before_return (x ∷ front) rest [] following byte other lacks e = absurd (lacks.0 (let h : x ≡ 13 = cc in h))
before_return (x ∷ front) rest (y ∷ text) following byte other lacks e =
    let tails : front ++ byte ∷ rest ≡ text ++ 13 ∷ following = cc in
    let more = before_return front rest text following byte other lacks.1 tails in
    (more.0, both y x text (front ++ byte ∷ more.0) (let head : y ≡ x = cc in head) more.1)
  where
    both : (a b : ℕ) (xs ys : List ℕ) → a ≡ b → xs ≡ ys → a ∷ xs ≡ b ∷ ys
    both a b xs ys head tail = cc

-- the byte at the place that was found
bad_at : (end : ℕ) (bytes rest : List ℕ) (byte : ℕ) → Some end ≡ bad_byte_place bytes → byte ∷ rest ≡ drop end bytes
    → is_text_byte byte ≡ false
bad_at end bytes rest byte found following =
    let p = λ (b : ℕ). not (is_text_byte b) in
    let at = (position-Some p bytes end 0 (sym found)).1 in
    let same : get_or bytes end 0 ≡ byte = sym (at_drop end bytes) ∙ ap (λ (l : List ℕ). get_or l 0 0) (sym following)
    in
    by (is_text_byte byte) refl (ap p (sym same) ∙ at)
  where
    at_drop : (n : ℕ) (xs : List ℕ) → get_or (drop n xs) 0 0 ≡ get_or xs n 0
    at_drop zero xs = refl
    at_drop (suc n) [] = refl
    at_drop (suc n) (x ∷ xs) = at_drop n xs

    by : (test : Bool) → is_text_byte byte ≡ test → not (is_text_byte byte) ≡ true → is_text_byte byte ≡ false
    by false is h = is
    by true is h = let clash : not true ≡ true = ap not (sym is) ∙ h in cc clash

-- The first byte that no record may hold is no CR: then the first line is rejected.
pub bad_line : (left : Option Begun) (bytes front rest text following : List ℕ) (end byte : ℕ)
    → Some end ≡ bad_byte_place bytes → front ≡ take end bytes → drop end bytes ≡ byte ∷ rest
    → IsRecordText front → byte ≢ 13 → bytes ≡ text ++ 13 ∷ following
    → IsRecordRefused left text
bad_line left bytes front rest text following end byte found taken left_over all other whole =
    let parts : front ++ byte ∷ rest ≡ text ++ 13 ∷ following =
    ap (λ (l : List ℕ). l ++ byte ∷ rest) taken ∙ ap (λ (l : List ℕ). take end bytes ++ l) (sym left_over)
    ∙ take-append-drop end bytes ∙ whole in
    let at = before_return front rest text following byte other (text_lacks front all) parts in
    byte_refused left text front at.0 byte at.1 (bad_at end bytes rest byte found (sym left_over))

-- It is a CR: then the line before it is the first.
pub ended_line : (left : Option Begun) (bytes front rest text following : List ℕ) (end byte : ℕ) (reason : Reason)
    → front ≡ take end bytes → drop end bytes ≡ byte ∷ rest → byte ≡ 13 → IsRecordText front
    → LacksReturn text → bytes ≡ text ++ 13 ∷ following → IsRecordRefusedFor left front reason
    → IsRecordRefused left text
ended_line left bytes front rest text following end byte reason taken left_over return all lacks whole refused =
    let parts : front ++ 13 ∷ rest ≡ text ++ 13 ∷ following =
    ap (λ (l : List ℕ). l ++ 13 ∷ rest) taken ∙ ap (λ (b : ℕ). take end bytes ++ b ∷ rest) (sym return)
    ∙ ap (λ (l : List ℕ). take end bytes ++ l) (sym left_over) ∙ take-append-drop end bytes ∙ whole in
    let same = (line_one front text rest following (text_lacks front all) lacks parts).0 in
    (reason, subst (λ (l : List ℕ). IsRecordRefusedFor left l reason) same refused)

-- No byte is one that no record may hold: then no line ends.
pub no_line : (bytes text following : List ℕ) → IsRecordText bytes → bytes ≡ text ++ 13 ∷ following → ⊥
no_line bytes text following all whole = no_return_in text following bytes (text_lacks bytes all) (sym whole)
