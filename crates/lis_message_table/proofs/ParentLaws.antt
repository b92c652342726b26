-- What a record is under, as it is found while the records pass, is what the tree has it under.
use Rattle.std.proofs.Common.{◌≡◌, ℕ, ◌+◌, List, [], ◌∷◌, ◌++◌, length, map, refl, sym, ◌∙◌, ap, append_assoc, arith}
use Rattle.std.proofs.Common.{length-append}
use Rattle.std.specs.List.{AllByRecursion, flat_map}
use Rattle.lis_record_values.specs.declared.kinds.Kind.{Kind}
use Rattle.lis_record_values.specs.declared.kinds.Kind.TheVariants as kinds
use Rattle.lis_record_values.specs.Shape.{RecordContent}
use Rattle.std.specs.Prelude.{cond}
use Rattle.lis_tree.proofs.Levels.{map_append}
use Rattle.lis_tree.specs.Level.{kinds_of}
use Rattle.lis_tree.specs.Nodes.{Annotated, OrderTree}
use Rattle.lis_tree.specs.declared.tree.Group.{Group}
use Rattle.lis_tree.specs.declared.tree.Group.TheVariants as groups
use Rattle.lis_tree.specs.Tree.{MessageTree, IsTree, IsNote, AreNotes, IsAnnotated, IsOrder, IsGroup, flatten}
use Rattle.lis_tree.specs.Tree.{annotated_records, group_records, order_records, patient_records}
use Rattle.lis_message_table.specs.Parents.{annotated_parents, group_parents, order_parents, result_parents}
use Rattle.lis_message_table.specs.Parents.{is_no_note, is_order, is_patient, last_of, parent_after, parents_after}
use Rattle.lis_message_table.specs.Parents.{tree_parents}
use Rattle.lis_message_table.specs.declared.above.Above.{Above}
use Rattle.lis_message_table.specs.inside.Above.{above_after, above_all, nothing_above, parent_of, parents_from}

abbrev under : (head patient order : ℕ) → Above
under h p o = record { head = h; patient = p; order = o }

-- ---- one record more

pub parents_more : (a : Above) (i : ℕ) (records : List RecordContent) (r : RecordContent)
    → parents_from a i (records ++ r ∷ []) ≡ parents_from a i records ++ parent_of (above_all a i records) r.kind ∷ []
parents_more a i [] r = refl
parents_more a i (x ∷ records) r =
    ap (λ (l : List ℕ). parent_of a x.kind ∷ l) (parents_more (above_after a i x.kind) (i + 1) records r)

pub above_more : (a : Above) (i : ℕ) (records : List RecordContent) (r : RecordContent)
    → above_all a i (records ++ r ∷ []) ≡ above_after (above_all a i records) (i + length records) r.kind
above_more a i [] r = let here : i ≡ i + 0 = omega arith in ap (λ (n : ℕ). above_after a n r.kind) here
above_more a i (x ∷ records) r =
    let there : i + 1 + length records ≡ i + length (x ∷ records) = omega arith in
    above_more (above_after a i x.kind) (i + 1) records r
    ∙ ap (λ (n : ℕ). above_after (above_all (above_after a i x.kind) (i + 1) records) n r.kind) there

-- ---- what it is under, by the kinds before it

patient_is : (a : Above) (i : ℕ) (records : List RecordContent)
    → (above_all a i records).patient ≡ last_of is_patient i a.patient (kinds_of records)
patient_is a i [] = refl
patient_is a i (r ∷ records) =
    patient_is (above_after a i r.kind) (i + 1) records
    ∙ ap (λ (n : ℕ). last_of is_patient (i + 1) n (kinds_of records)) (by r.kind)
  where
    by : (k : Kind) → (above_after a i k).patient ≡ cond (is_patient k) i a.patient
    by kinds.P = refl
    by kinds.H = refl
    by kinds.O = refl
    by kinds.R = refl
    by kinds.C = refl
    by kinds.Q = refl
    by kinds.M = refl
    by kinds.S = refl
    by kinds.L = refl

order_is : (a : Above) (i : ℕ) (records : List RecordContent)
    → (above_all a i records).order ≡ last_of is_order i a.order (kinds_of records)
order_is a i [] = refl
order_is a i (r ∷ records) =
    order_is (above_after a i r.kind) (i + 1) records
    ∙ ap (λ (n : ℕ). last_of is_order (i + 1) n (kinds_of records)) (by r.kind)
  where
    by : (k : Kind) → (above_after a i k).order ≡ cond (is_order k) i a.order
    by kinds.P = refl
    by kinds.H = refl
    by kinds.O = refl
    by kinds.R = refl
    by kinds.C = refl
    by kinds.Q = refl
    by kinds.M = refl
    by kinds.S = refl
    by kinds.L = refl

head_is : (a : Above) (i : ℕ) (records : List RecordContent)
    → (above_all a i records).head ≡ last_of is_no_note i a.head (kinds_of records)
head_is a i [] = refl
head_is a i (r ∷ records) =
    head_is (above_after a i r.kind) (i + 1) records
    ∙ ap (λ (n : ℕ). last_of is_no_note (i + 1) n (kinds_of records)) (by r.kind)
  where
    by : (k : Kind) → (above_after a i k).head ≡ cond (is_no_note k) i a.head
    by kinds.P = refl
    by kinds.H = refl
    by kinds.O = refl
    by kinds.R = refl
    by kinds.C = refl
    by kinds.Q = refl
    by kinds.M = refl
    by kinds.S = refl
    by kinds.L = refl

parent_is : (records : List RecordContent) (k : Kind)
    → parent_of (above_all nothing_above 0 records) k ≡ parent_after (kinds_of records) k
parent_is records kinds.H = refl
parent_is records kinds.P = refl
parent_is records kinds.O = patient_is nothing_above 0 records
parent_is records kinds.R = order_is nothing_above 0 records
parent_is records kinds.C = head_is nothing_above 0 records
parent_is records kinds.Q = refl
parent_is records kinds.M = head_is nothing_above 0 records
parent_is records kinds.S = head_is nothing_above 0 records
parent_is records kinds.L = refl

parents_from_are : (before records : List RecordContent)
    → parents_from (above_all nothing_above 0 before) (length before) records
    ≡ parents_after (kinds_of before) (kinds_of records)
parents_from_are before [] = refl
parents_from_are before (r ∷ records) =
    let next : above_after (above_all nothing_above 0 before) (length before) r.kind
    ≡ above_all nothing_above 0 (before ++ r ∷ []) =
    let here : length before ≡ 0 + length before = omega arith in
    ap (λ (n : ℕ). above_after (above_all nothing_above 0 before) n r.kind) here
    ∙ sym (above_more nothing_above 0 before r) in
    let there : length before + 1 ≡ length (before ++ r ∷ []) = omega (arith, length-append before (r ∷ [])) in
    ap (λ (n : ℕ). n ∷ parents_from (above_after (above_all nothing_above 0 before) (length before) r.kind)
    (length before + 1) records) (parent_is before r.kind)
    ∙ ap (λ (l : List ℕ). parent_after (kinds_of before) r.kind ∷ l)
    (ap (λ (a : Above). parents_from a (length before + 1) records) next
    ∙ ap (λ (n : ℕ). parents_from (above_all nothing_above 0 (before ++ r ∷ [])) n records) there
    ∙ parents_from_are (before ++ r ∷ []) records
    ∙ ap (λ (ks : List Kind). parents_after ks (kinds_of records)) (map_append before (r ∷ [])))

pub front_parents : (records : List RecordContent)
    → parents_from nothing_above 0 records ≡ parents_after [] (kinds_of records)
front_parents records = parents_from_are [] records

-- ---- the parts of a tree

-- a note is under the last record that is no note, and leaves what is above the next one
note_step : (a : Above) (i : ℕ) (k : Kind) → IsNote k → (parent_of a k ≡ a.head) × (above_after a i k ≡ a)
note_step a i kinds.C note = (refl, refl)
note_step a i kinds.M note = (refl, refl)
note_step a i kinds.S note = (refl, refl)
note_step a i k note = absurd note

after_notes : (notes rest : List RecordContent) → AreNotes notes → (a : Above) (i : ℕ)
    → parents_from a i (notes ++ rest)
    ≡ map (λ (note : RecordContent). a.head) notes ++ parents_from a (i + length notes) rest
after_notes [] rest are a i = let here : i ≡ i + 0 = omega arith in ap (λ (n : ℕ). parents_from a n rest) here
after_notes (x ∷ notes) rest are a i =
    let step = note_step a i x.kind are.0 in
    let there : i + 1 + length notes ≡ i + length (x ∷ notes) = omega arith in
    ap (λ (n : ℕ). n ∷ parents_from (above_after a i x.kind) (i + 1) (notes ++ rest)) step.0
    ∙ ap (λ (b : Above). a.head ∷ parents_from b (i + 1) (notes ++ rest)) step.1
    ∙ ap (λ (l : List ℕ). a.head ∷ l)
    (after_notes notes rest are.1 a (i + 1)
    ∙ ap (λ (n : ℕ). map (λ (note : RecordContent). a.head) notes ++ parents_from a n rest) there)

-- a record that is no note, with its notes
after_annotated : (n : Annotated) (k : Kind) → IsAnnotated k n → (rest : List RecordContent) (a : Above) (i : ℕ)
    → (above_after a i k).head ≡ i
    → parents_from a i (annotated_records n ++ rest)
    ≡ annotated_parents (parent_of a k) i n ++ parents_from (above_after a i k) (i + length (annotated_records n)) rest
after_annotated n k is rest a i top =
    let there : i + 1 + length n.notes ≡ i + length (annotated_records n) = omega arith in
    ap (λ (j : Kind). parent_of a j ∷ parents_from (above_after a i j) (i + 1) (n.notes ++ rest)) is.head
    ∙ ap (λ (l : List ℕ). parent_of a k ∷ l)
    (after_notes n.notes rest is.notes (above_after a i k) (i + 1)
    ∙ ap (λ (h : ℕ). map (λ (note : RecordContent). h) n.notes
    ++ parents_from (above_after a i k) (i + 1 + length n.notes) rest) top
    ∙ ap (λ (m : ℕ). map (λ (note : RecordContent). i) n.notes ++ parents_from (above_after a i k) m rest) there)

-- The records that follow parts of a tree are from the index j on, and are under these.

after_results : (rest : List RecordContent) (parents : List ℕ) (p o : ℕ) (es : List Annotated)
    → AllByRecursion (IsAnnotated kinds.R) es → (h i j : ℕ) → j ≡ i + length (flat_map annotated_records es)
    → ((g : ℕ) → parents_from (under g p o) j rest ≡ parents)
    → parents_from (under h p o) i (flat_map annotated_records es ++ rest) ≡ result_parents o i es ++ parents
after_results rest parents p o [] are h i j end next =
    let here : i ≡ j = omega (arith, end) in
    ap (λ (n : ℕ). parents_from (under h p o) n rest) here ∙ next h
after_results rest parents p o (e ∷ es) are h i j end next =
    let later = flat_map annotated_records es in
    let there : j ≡ i + length (annotated_records e) + length later =
    omega (arith, end, length-append (annotated_records e) later) in
    ap (parents_from (under h p o) i) (append_assoc (annotated_records e) later rest)
    ∙ after_annotated e kinds.R are.0 (later ++ rest) (under h p o) i refl
    ∙ ap (λ (l : List ℕ). annotated_parents o i e ++ l)
    (after_results rest parents p o es are.1 i (i + length (annotated_records e)) j there next)
    ∙ sym (append_assoc (annotated_parents o i e) (result_parents o (i + length (annotated_records e)) es) parents)

three : (a b c d : List ℕ) → a ++ (b ++ (c ++ d)) ≡ (a ++ b ++ c) ++ d
three a b c d = sym (append_assoc (a ++ b) c d ∙ append_assoc a b (c ++ d))

after_orders : (rest : List RecordContent) (parents : List ℕ) (p : ℕ) (os : List OrderTree)
    → AllByRecursion IsOrder os → (h o i j : ℕ) → j ≡ i + length (flat_map order_records os)
    → ((g k : ℕ) → parents_from (under g p k) j rest ≡ parents)
    → parents_from (under h p o) i (flat_map order_records os ++ rest) ≡ order_parents p i os ++ parents
after_orders rest parents p [] are h o i j end next =
    let here : i ≡ j = omega (arith, end) in
    ap (λ (n : ℕ). parents_from (under h p o) n rest) here ∙ next h o
after_orders rest parents p (x ∷ os) are h o i j end next =
    let later = flat_map order_records os ++ rest in
    let top = annotated_records x.top in
    let below = flat_map annotated_records x.below in
    let there : j ≡ i + length (order_records x) + length (flat_map order_records os) =
    omega (arith, end, length-append (order_records x) (flat_map order_records os)) in
    let here : i + length (order_records x) ≡ i + length top + length below =
    omega (arith, length-append top below) in
    let reported = order_parents p (i + length (order_records x)) os ++ parents in
    ap (parents_from (under h p o) i) (append_assoc (order_records x) (flat_map order_records os) rest
    ∙ append_assoc top below later)
    ∙ after_annotated x.top kinds.O are.0.top (below ++ later) (under h p o) i refl
    ∙ ap (λ (l : List ℕ). annotated_parents p i x.top ++ l)
    (after_results later reported p i x.below are.0.below i (i + length top) (i + length (order_records x)) here
    (λ g. after_orders rest parents p os are.1 g i (i + length (order_records x)) j there next))
    ∙ three (annotated_parents p i x.top) (result_parents i (i + length top) x.below)
    (order_parents p (i + length (order_records x)) os) parents

after_groups : (rest : List RecordContent) (parents : List ℕ) (gs : List Group) → AllByRecursion IsGroup gs
    → (h p o i j : ℕ) → j ≡ i + length (flat_map group_records gs)
    → ((g q k : ℕ) → parents_from (under g q k) j rest ≡ parents)
    → parents_from (under h p o) i (flat_map group_records gs ++ rest) ≡ group_parents i gs ++ parents
after_groups rest parents [] are h p o i j end next =
    let here : i ≡ j = omega (arith, end) in
    ap (λ (n : ℕ). parents_from (under h p o) n rest) here ∙ next h p o
after_groups rest parents (groups.Patient x ∷ gs) are h p o i j end next =
    let later = flat_map group_records gs ++ rest in
    let top = annotated_records x.top in
    let below = flat_map order_records x.below in
    let there : j ≡ i + length (patient_records x) + length (flat_map group_records gs) =
    omega (arith, end, length-append (patient_records x) (flat_map group_records gs)) in
    let here : i + length (patient_records x) ≡ i + length top + length below =
    omega (arith, length-append top below) in
    let reported = group_parents (i + length (patient_records x)) gs ++ parents in
    ap (parents_from (under h p o) i) (append_assoc (patient_records x) (flat_map group_records gs) rest
    ∙ append_assoc top below later)
    ∙ after_annotated x.top kinds.P are.0.top (below ++ later) (under h p o) i refl
    ∙ ap (λ (l : List ℕ). annotated_parents 0 i x.top ++ l)
    (after_orders later reported i x.below are.0.below i o (i + length top) (i + length (patient_records x)) here
    (λ g k. after_groups rest parents gs are.1 g i k (i + length (patient_records x)) j there next))
    ∙ three (annotated_parents 0 i x.top) (order_parents i (i + length top) x.below)
    (group_parents (i + length (patient_records x)) gs) parents
after_groups rest parents (groups.Query x ∷ gs) are h p o i j end next =
    let later = flat_map group_records gs in
    let there : j ≡ i + length (annotated_records x) + length later =
    omega (arith, end, length-append (annotated_records x) later) in
    ap (parents_from (under h p o) i) (append_assoc (annotated_records x) later rest)
    ∙ after_annotated x kinds.Q are.0 (later ++ rest) (under h p o) i refl
    ∙ ap (λ (l : List ℕ). annotated_parents 0 i x ++ l)
    (after_groups rest parents gs are.1 i p o (i + length (annotated_records x)) j there next)
    ∙ sym (append_assoc (annotated_parents 0 i x) (group_parents (i + length (annotated_records x)) gs) parents)

after_closing : (closing : RecordContent) → closing.kind ≡ kinds.L → (j g q k : ℕ)
    → parents_from (under g q k) j (closing ∷ []) ≡ 0 ∷ []
after_closing closing is j g q k = ap (λ (x : Kind). parent_of (under g q k) x ∷ []) is

-- ---- the tree

pub parents_are : (m : MessageTree) → IsTree m → parents_from nothing_above 0 (flatten m) ≡ tree_parents m
parents_are m is =
    let top : Annotated = record { head = m.header; notes = m.notes } in
    let below = flat_map group_records m.groups in
    let here : 0 + length (m.header ∷ m.notes) ≡ 1 + length m.notes = omega arith in
    ap (parents_from nothing_above 0) (append_assoc (m.header ∷ m.notes) below (m.closing ∷ []))
    ∙ after_annotated top kinds.H (record { head = is.header; notes = is.notes }) (below ++ m.closing ∷ [])
    nothing_above 0 refl
    ∙ ap (λ (n : ℕ). annotated_parents 0 0 top ++ parents_from (under 0 0 0) n (below ++ m.closing ∷ [])) here
    ∙ ap (λ (l : List ℕ). annotated_parents 0 0 top ++ l)
    (after_groups (m.closing ∷ []) (0 ∷ []) m.groups is.groups 0 0 0 (1 + length m.notes)
    (1 + length m.notes + length below) refl
    (after_closing m.closing is.closing (1 + length m.notes + length below)))
    ∙ sym (append_assoc (annotated_parents 0 0 top) (group_parents (1 + length m.notes) m.groups) (0 ∷ []))
