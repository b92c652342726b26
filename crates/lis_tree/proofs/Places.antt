-- The expected number of each record, counted back, is its place in the tree.
use Rattle.std.proofs.Common.{◌≡◌, ℕ, ◌+◌, List, [], ◌∷◌, ◌++◌, Option, Some, None, Bool, true, false, not, ◌&&◌}
use Rattle.std.proofs.Common.{if◌then◌else◌, refl, sym, ◌∙◌, ap, append_assoc}
use Rattle.std.specs.List.{AllByRecursion, flat_map}
use Rattle.lis_record_values.specs.declared.kinds.Kind.{Kind}
use Rattle.lis_record_values.specs.declared.kinds.Kind.TheVariants as kinds
use Rattle.lis_record_values.specs.Shape.{RecordContent, field_at}
use Rattle.lis_tree.specs.declared.numbering.Finding.{Finding}
use Rattle.lis_tree.specs.declared.tree.Group.{Group}
use Rattle.lis_tree.specs.declared.tree.Group.TheVariants as groups
use Rattle.lis_tree.specs.Findings.{findings_from, findings_of}
use Rattle.lis_tree.specs.Nodes.{Annotated, OrderTree}
use Rattle.lis_tree.specs.Numbers.{expected_number, field_number, is_number, is_numbered, siblings}
use Rattle.lis_tree.specs.Places.{comment_number, next_comment, note_numbers, result_numbers, order_numbers}
use Rattle.lis_tree.specs.Places.{group_numbers, tree_numbers, number_finding, number_findings}
use Rattle.lis_tree.specs.Tree.{MessageTree, IsTree, IsNote, AreNotes, IsAnnotated, IsOrder, IsGroup, flatten}
use Rattle.lis_tree.specs.Tree.{annotated_records, order_records, group_records}
use Rattle.lis_bytes.specs.Capped.{capped}

-- the number of a record of this kind after these
abbrev number_after : Kind → List Kind → Option ℕ
number_after k earlier = if is_numbered k then Some (expected_number k earlier) else None

abbrev numbers_after : List Kind → List RecordContent → List (Option ℕ)
numbers_after earlier [] = []
numbers_after earlier (r ∷ records) = number_after r.kind earlier ∷ numbers_after (r.kind ∷ earlier) records

-- how many patients, queries, orders and results are after the parent of the next one
record Counts : Type 0 where
  patients : ℕ
  queries : ℕ
  orders : ℕ
  results : ℕ

abbrev counts : List Kind → Counts
counts earlier = record {
  patients = siblings kinds.P earlier;
  queries = siblings kinds.Q earlier;
  orders = siblings kinds.O earlier;
  results = siblings kinds.R earlier;
}

-- they are so many
abbrev At : (earlier : List Kind) (p q o r : ℕ) → Type 0
At earlier p q o r = counts earlier ≡ record { patients = p; queries = q; orders = o; results = r }

-- after so many these records have these numbers
abbrev IsNext : (p q o r : ℕ) → List RecordContent → List (Option ℕ) → Type 0
IsNext p q o r records numbers = (earlier : List Kind) → At earlier p q o r → numbers_after earlier records ≡ numbers

first_kind : (earlier : List Kind) (x : RecordContent) (xs : List RecordContent) (k : Kind) → x.kind ≡ k
    → numbers_after earlier (x ∷ xs) ≡ number_after k earlier ∷ numbers_after (k ∷ earlier) xs
first_kind earlier x xs k is = ap (λ (j : Kind). number_after j earlier ∷ numbers_after (j ∷ earlier) xs) is

-- a note leaves all counts but that of the comments
note_step : (p q o r c : ℕ) (k : Kind) (earlier : List Kind) → IsNote k → At earlier p q o r
    → siblings kinds.C earlier + 1 ≡ c
    → (number_after k earlier ≡ comment_number c k) × At (k ∷ earlier) p q o r
    × (siblings kinds.C (k ∷ earlier) + 1 ≡ next_comment c k)
note_step p q o r c kinds.C earlier note at is = (ap (λ (n : ℕ). Some n) is, at, ap (λ (n : ℕ). n + 1) is)
note_step p q o r c kinds.M earlier note at is = (refl, at, is)
note_step p q o r c kinds.S earlier note at is = (refl, at, is)
note_step p q o r c k earlier note at is = absurd note

module _ (p q o r : ℕ) (rest : List RecordContent) (numbers : List (Option ℕ)) (next : IsNext p q o r rest numbers)
  where
    after_notes : (notes : List RecordContent) → AreNotes notes → (c : ℕ) (earlier : List Kind) → At earlier p q o r
        → siblings kinds.C earlier + 1 ≡ c → numbers_after earlier (notes ++ rest) ≡ note_numbers c notes ++ numbers
    after_notes [] are c earlier at is = next earlier at
    after_notes (x ∷ notes) are c earlier at is =
        let step = note_step p q o r c x.kind earlier are.0 at is in
        ap (λ (n : Option ℕ). n ∷ numbers_after (x.kind ∷ earlier) (notes ++ rest)) step.0
        ∙ ap (λ (ns : List (Option ℕ)). comment_number c x.kind ∷ ns)
        (after_notes notes are.1 (next_comment c x.kind) (x.kind ∷ earlier) step.1 step.2)

    after_annotated : (n : Annotated) (k : Kind) → IsAnnotated k n → (earlier : List Kind) → At (k ∷ earlier) p q o r
        → siblings kinds.C (k ∷ earlier) ≡ 0
        → numbers_after earlier (annotated_records n ++ rest) ≡ number_after k earlier ∷ note_numbers 1 n.notes ++
        numbers
    after_annotated n k is earlier at none =
        first_kind earlier n.head (n.notes ++ rest) k is.head
        ∙ ap (λ (ns : List (Option ℕ)). number_after k earlier ∷ ns)
        (after_notes n.notes is.notes 1 (k ∷ earlier) at (ap (λ (c : ℕ). c + 1) none))

-- ---- the parts of a tree

three : (a b c d : List (Option ℕ)) → a ++ (b ++ (c ++ d)) ≡ a ++ b ++ c ++ d
three a b c d = sym (append_assoc (a ++ b) c d ∙ append_assoc a b (c ++ d))

results_next : (p q o : ℕ) (rest : List RecordContent) (numbers : List (Option ℕ))
    → ((r : ℕ) → IsNext p q o r rest numbers) → (es : List Annotated) → AllByRecursion (IsAnnotated kinds.R) es
    → (r : ℕ)
    → IsNext p q o r (flat_map annotated_records es ++ rest) (result_numbers (r + 1) es ++ numbers)
results_next p q o rest numbers next [] are r earlier at = next r earlier at
results_next p q o rest numbers next (e ∷ es) are r earlier at =
    ap (numbers_after earlier) (append_assoc (annotated_records e) (flat_map annotated_records es) rest)
    ∙ after_annotated p q o (r + 1) (flat_map annotated_records es ++ rest) (result_numbers (r + 1 + 1) es ++ numbers)
    (results_next p q o rest numbers next es are.1 (r + 1)) e kinds.R are.0 earlier
    (ap (λ (c : Counts). record c { results = c.results + 1 }) at) refl
    ∙ ap (λ (c : Counts). (Some (c.results + 1) ∷ note_numbers 1 e.notes)
    ++ (result_numbers (r + 1 + 1) es ++ numbers)) at
    ∙ sym (append_assoc (Some (r + 1) ∷ note_numbers 1 e.notes) (result_numbers (r + 1 + 1) es) numbers)

orders_next : (p q : ℕ) (rest : List RecordContent) (numbers : List (Option ℕ))
    → ((o r : ℕ) → IsNext p q o r rest numbers) → (os : List OrderTree) → AllByRecursion IsOrder os → (o r : ℕ)
    → IsNext p q o r (flat_map order_records os ++ rest) (order_numbers (o + 1) os ++ numbers)
orders_next p q rest numbers next [] are o r earlier at = next o r earlier at
orders_next p q rest numbers next (x ∷ os) are o r earlier at =
    let later = flat_map order_records os ++ rest in
    let reported = order_numbers (o + 1 + 1) os ++ numbers in
    ap (numbers_after earlier) (append_assoc (order_records x) (flat_map order_records os) rest
    ∙ append_assoc (annotated_records x.top) (flat_map annotated_records x.below) later)
    ∙ after_annotated p q (o + 1) 0 (flat_map annotated_records x.below ++ later) (result_numbers 1 x.below ++ reported)
    (results_next p q (o + 1) later reported (orders_next p q rest numbers next os are.1 (o + 1)) x.below are.0.below 0)
    x.top kinds.O are.0.top earlier
    (ap (λ (c : Counts). record c { orders = c.orders + 1; results = 0 }) at) refl
    ∙ ap (λ (c : Counts). (Some (c.orders + 1) ∷ note_numbers 1 x.top.notes)
    ++ (result_numbers 1 x.below ++ reported)) at
    ∙ three (Some (o + 1) ∷ note_numbers 1 x.top.notes) (result_numbers 1 x.below) (order_numbers (o + 1 + 1) os)
    numbers

groups_next : (rest : List RecordContent) (numbers : List (Option ℕ))
    → ((p q o r : ℕ) → IsNext p q o r rest numbers) → (gs : List Group) → AllByRecursion IsGroup gs → (p q o r : ℕ)
    → IsNext p q o r (flat_map group_records gs ++ rest) (group_numbers (p + 1) (q + 1) gs ++ numbers)
groups_next rest numbers next [] are p q o r earlier at = next p q o r earlier at
groups_next rest numbers next (groups.Patient x ∷ gs) are p q o r earlier at =
    let later = flat_map group_records gs ++ rest in
    let reported = group_numbers (p + 1 + 1) (q + 1) gs ++ numbers in
    ap (numbers_after earlier) (append_assoc (group_records (groups.Patient x)) (flat_map group_records gs) rest
    ∙ append_assoc (annotated_records x.top) (flat_map order_records x.below) later)
    ∙ after_annotated (p + 1) q 0 r (flat_map order_records x.below ++ later) (order_numbers 1 x.below ++ reported)
    (orders_next (p + 1) q later reported (groups_next rest numbers next gs are.1 (p + 1) q) x.below are.0.below 0 r)
    x.top kinds.P are.0.top earlier
    (ap (λ (c : Counts). record c { patients = c.patients + 1; orders = 0 }) at) refl
    ∙ ap (λ (c : Counts). (Some (c.patients + 1) ∷ note_numbers 1 x.top.notes)
    ++ (order_numbers 1 x.below ++ reported)) at
    ∙ three (Some (p + 1) ∷ note_numbers 1 x.top.notes) (order_numbers 1 x.below)
    (group_numbers (p + 1 + 1) (q + 1) gs) numbers
groups_next rest numbers next (groups.Query x ∷ gs) are p q o r earlier at =
    let later = flat_map group_records gs ++ rest in
    let reported = group_numbers (p + 1) (q + 1 + 1) gs ++ numbers in
    ap (numbers_after earlier) (append_assoc (annotated_records x) (flat_map group_records gs) rest)
    ∙ after_annotated p (q + 1) o r later reported (groups_next rest numbers next gs are.1 p (q + 1) o r)
    x kinds.Q are.0 earlier
    (ap (λ (c : Counts). record c { queries = c.queries + 1 }) at) refl
    ∙ ap (λ (c : Counts). (Some (c.queries + 1) ∷ note_numbers 1 x.notes) ++ reported) at
    ∙ sym (append_assoc (Some (q + 1) ∷ note_numbers 1 x.notes) (group_numbers (p + 1) (q + 1 + 1) gs) numbers)

closing_next : (closing : RecordContent) → closing.kind ≡ kinds.L → (p q o r : ℕ)
    → IsNext p q o r (closing ∷ []) (Some 1 ∷ [])
closing_next closing is p q o r earlier at = first_kind earlier closing [] kinds.L is

numbers_are : (m : MessageTree) → IsTree m → numbers_after [] (flatten m) ≡ tree_numbers m
numbers_are m is =
    let rest = flat_map group_records m.groups ++ m.closing ∷ [] in
    ap (numbers_after []) (append_assoc (m.header ∷ m.notes) (flat_map group_records m.groups) (m.closing ∷ []))
    ∙ after_annotated 0 0 0 0 rest (group_numbers 1 1 m.groups ++ Some 1 ∷ [])
    (groups_next (m.closing ∷ []) (Some 1 ∷ []) (closing_next m.closing is.closing) m.groups is.groups 0 0 0 0)
    (record { head = m.header; notes = m.notes }) kinds.H (record { head = is.header; notes = is.notes }) []
    refl refl
    ∙ sym (append_assoc (None ∷ note_numbers 1 m.notes) (group_numbers 1 1 m.groups) (Some 1 ∷ []))

-- ---- the findings

finding_is : (place : ℕ) (numbered right : Bool) (n : ℕ) (r : RecordContent)
    → is_number (field_number (field_at r 2)) (capped n) ≡ right
    → (if numbered && not right then record { place = capped place; kind = r.kind; expected = capped n } ∷ [] else [])
    ≡ number_finding place (if numbered then Some n else None) r
finding_is place false right n r is = refl
finding_is place true true n r is =
    ap (λ (b : Bool). if b then [] else record { place = capped place; kind = r.kind; expected = capped n } ∷ [])
    (sym is)
finding_is place true false n r is =
    ap (λ (b : Bool). if b then [] else record { place = capped place; kind = r.kind; expected = capped n } ∷ [])
    (sym is)

findings_are : (earlier : List Kind) (place : ℕ) (records : List RecordContent)
    → findings_from earlier place records ≡ number_findings place (numbers_after earlier records) records
findings_are earlier place [] = refl
findings_are earlier place (r ∷ records) =
    let n = expected_number r.kind earlier in
    ap (λ (l : List Finding). l ++ findings_from (r.kind ∷ earlier) (place + 1) records)
    (finding_is place (is_numbered r.kind) (is_number (field_number (field_at r 2)) (capped n)) n r refl)
    ∙ ap (λ (l : List Finding). number_finding place (number_after r.kind earlier) r ++ l)
    (findings_are (r.kind ∷ earlier) (place + 1) records)

pub findings_by_tree : (m : MessageTree) → IsTree m
    → findings_of m ≡ number_findings 1 (tree_numbers m) (flatten m)
findings_by_tree m is =
    findings_are [] 1 (flatten m)
    ∙ ap (λ (ns : List (Option ℕ)). number_findings 1 ns (flatten m)) (numbers_are m is)
