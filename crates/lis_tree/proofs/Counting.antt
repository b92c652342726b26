-- Counting records, and reading digits.
use Rattle.std.proofs.Common.{◌≡◌, ◌≢◌, ℕ, ◌+◌, ◌*◌, ◌^◌, ◌<◌, ◌≤◌, List, [], ◌∷◌, ◌++◌, drop, length, Option, Some}
use Rattle.std.proofs.Common.{None, refl, sym, ◌∙◌, ap, subst, append_assoc, append-nil, arith, add-one, drop-cons}
use Rattle.std.specs.Option.{option_to_list}
use Rattle.std.specs.Prelude.{slice_get, Bool, true, false, not, ◌&&◌, if◌then◌else◌, nat_le}
use Rattle.std.proofs.lemmas.Bool.Decides.{nat_tests}
use Rattle.std.proofs.Math.Nat.{pow-suc}
use Rattle.std.proofs.lemmas.Option.{slice_get_within, get_or_from_slice_get}
use Rattle.lis_record_values.specs.declared.kinds.Kind.{Kind}
use Rattle.lis_record_values.specs.declared.kinds.Kind.TheVariants as kinds
use Rattle.lis_record_values.specs.declared.symbols.Sym.{Sym}
use Rattle.lis_record_values.specs.Shape.{RecordContent, Symbols, field_at}
use Rattle.lis_tree.specs.declared.numbering.Finding.{Finding}
use Rattle.lis_tree.specs.Findings.{finding_of, finding_on, findings_from, kinds_back}
use Rattle.lis_tree.specs.Numbers.{symbol_digit, digits_from, digits_number, expected_number, field_number, is_number}
use Rattle.lis_tree.specs.Numbers.{is_numbered}
use Rattle.lis_bytes.specs.Capped.{capped}

-- what is left from a symbol on
pub at_symbol : (xs : Symbols) (i : ℕ) (x : Sym) → Some x ≡ slice_get xs i → drop i xs ≡ x ∷ drop (i + 1) xs
at_symbol xs i x e =
    let within = slice_get_within xs i x (sym e) in
    subst (λ y. drop i xs ≡ y ∷ drop (i + 1) xs) (get_or_from_slice_get xs i x x (sym e))
    (rw add-one (drop-cons xs i x within))

-- one digit more
pub digit_more : (n : ℕ) (s : Sym) (rest : Symbols) (digit : ℕ) → symbol_digit s ≡ Some digit
    → digits_from n (s ∷ rest) ≡ digits_from (n * 10 + digit) rest
digit_more n s rest digit e = ap (λ o. elim o [ None ↦ None | Some d ↦ digits_from (n * 10 + d) rest ]) e

pub no_digit : (n : ℕ) (s : Sym) (rest : Symbols) → symbol_digit s ≡ None → digits_from n (s ∷ rest) ≡ None
no_digit n s rest e = ap (λ o. elim o [ None ↦ None | Some d ↦ digits_from (n * 10 + d) rest ]) e

-- one record more
pub findings_step : (all : List Finding) (found more : List Finding) (finding : Option Finding) (earlier : List Kind)
    (n : ℕ) (r : RecordContent) (walk rest : List RecordContent) → all ≡ found ++ findings_from earlier n walk
    → walk ≡ r ∷ rest
    → more ≡ found ++ option_to_list finding → option_to_list finding ≡ finding_on earlier n r
    → all ≡ more ++ findings_from (r.kind ∷ earlier) (n + 1) rest
findings_step all found more finding earlier n r walk rest whole is added on =
    whole ∙ ap (λ w. found ++ findings_from earlier n w) is
    ∙ ap (λ l. found ++ (l ++ findings_from (r.kind ∷ earlier) (n + 1) rest)) (sym on)
    ∙ sym (append_assoc found (option_to_list finding) (findings_from (r.kind ∷ earlier) (n + 1) rest))
    ∙ ap (λ l. l ++ findings_from (r.kind ∷ earlier) (n + 1) rest) (sym added)

-- of one to nine symbols
pub digits_in : (xs : Symbols) → 1 ≤ length xs → length xs ≤ 9 → digits_number xs ≡ digits_from 0 xs
digits_in xs low high = grind (arith, nat_tests)

pub pow_more : (n p d : ℕ) → n + 1 ≤ 10 ^ p → d < 10 → n * 10 + d + 1 ≤ 10 ^ (p + 1)
pow_more n p d h k = let e : 10 ^ (p + 1) ≡ 10 ^ p * 10 = rw add-one (pow-suc 10 p) in omega arith

-- ---- the finding on a record

pub finding_unnumbered : (earlier : List Kind) (n : ℕ) (r : RecordContent) → is_numbered r.kind ≡ false
    → finding_on earlier n r ≡ []
finding_unnumbered earlier n r e =
    ap (λ b. if b && not (is_number (field_number (field_at r 2)) (capped (expected_number r.kind earlier)))
    then finding_of earlier n r ∷ [] else []) e

neither : {X : Type 0} (b : Bool) (x : X) → (if b && not true then x ∷ [] else []) ≡ []
neither true x = refl
neither false x = refl

pub finding_right : (earlier : List Kind) (n : ℕ) (r : RecordContent)
    → is_number (field_number (field_at r 2)) (capped (expected_number r.kind earlier)) ≡ true
    → finding_on earlier n r ≡ []
finding_right earlier n r e =
    let finding = finding_of earlier n r in
    ap (λ b. if is_numbered r.kind && not b then finding ∷ [] else []) e ∙ neither (is_numbered r.kind) finding

pub finding_wrong : (earlier : List Kind) (n : ℕ) (r : RecordContent) → is_numbered r.kind ≡ true
    → is_number (field_number (field_at r 2)) (capped (expected_number r.kind earlier)) ≡ false
    → finding_on earlier n r ≡ finding_of earlier n r ∷ []
finding_wrong earlier n r numbered e =
    let finding = finding_of earlier n r in
    let num : Option ℕ = field_number (field_at r 2) in
    ap (λ b. if b && not (is_number num (capped (expected_number r.kind earlier))) then finding ∷ [] else []) numbered
    ∙ ap (λ b. if true && not b then finding ∷ [] else []) e

pub numbered_other : (k : Kind) → is_numbered k ≡ true → (k ≢ kinds.H) × (k ≢ kinds.M) × (k ≢ kinds.S)
numbered_other kinds.H e = absurd cc
numbered_other kinds.M e = absurd cc
numbered_other kinds.S e = absurd cc
numbered_other k e = ((λ x. cc), (λ x. cc), (λ x. cc))

pub same_finding : (p q : ℕ) (k j : Kind) (m n : ℕ) → p ≡ q → k ≡ j → m ≡ n
    → ◌≡◌ {A = List Finding} (record { place = p; kind = k; expected = m } ∷ [])
    (record { place = q; kind = j; expected = n } ∷ [])
same_finding p q k j m n e f g =
    let make : ℕ → Kind → ℕ → List Finding = λ a b c. record { place = a; kind = b; expected = c } ∷ [] in
    ap (λ a. make a k m) e ∙ ap (λ b. make q b m) f ∙ ap (make q j) g

-- ---- one record after another

pub kinds_back-more : (earlier : List Kind) (records : List RecordContent) (r : RecordContent)
    → kinds_back earlier (records ++ r ∷ []) ≡ r.kind ∷ kinds_back earlier records
kinds_back-more earlier [] r = refl
kinds_back-more earlier (x ∷ records) r = kinds_back-more (x.kind ∷ earlier) records r

pub findings-more : (earlier : List Kind) (n : ℕ) (records : List RecordContent) (r : RecordContent)
    → findings_from earlier n (records ++ r ∷ []) ≡ findings_from earlier n records
    ++ finding_on (kinds_back earlier records) (n + length records) r
findings-more earlier n [] r =
    append-nil (finding_on earlier n r) ∙ ap (λ (k : ℕ). finding_on earlier k r) (omega arith)
findings-more earlier n (x ∷ records) r =
    ap (λ l. finding_on earlier n x ++ l) (findings-more (x.kind ∷ earlier) (n + 1) records r)
    ∙ sym (append_assoc (finding_on earlier n x) (findings_from (x.kind ∷ earlier) (n + 1) records)
    (finding_on (kinds_back (x.kind ∷ earlier) records) (n + 1 + length records) r))
    ∙ ap (λ (k : ℕ). (finding_on earlier n x ++ findings_from (x.kind ∷ earlier) (n + 1) records)
    ++ finding_on (kinds_back (x.kind ∷ earlier) records) k r) (omega arith)

-- a symbol that comes first
pub digits_short : (xs : Symbols) → digits_from 0 xs ≡ None → digits_number xs ≡ None
digits_short xs none = by (nat_le 1 (length xs) && nat_le (length xs) 9)
  where
    by : (b : Bool) → (if b then digits_from 0 xs else None) ≡ None
    by true = none
    by false = refl

pub digits_long : (xs : Symbols) → 9 < length xs → digits_number xs ≡ None
digits_long xs long = grind (arith, nat_tests)

pub digits_none : (xs : Symbols) → length xs ≡ 0 → digits_number xs ≡ None
digits_none xs none = grind (arith, nat_tests)
