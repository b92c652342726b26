-- The results of the tree are those of its records: each is under the last order and the last patient before it.
use Rattle.std.proofs.Common.{◌≡◌, List, [], ◌∷◌, ◌++◌, map, Option, Some, None, refl, ap, sym, ◌∙◌, append_assoc}
use Rattle.std.proofs.Common.{Bor, true, is_some}
use Rattle.std.specs.Option.{option_copied}
use Rattle.std.proofs.lemmas.List.{map-append}
use Rattle.std.specs.List.{flat_map, AllByRecursion}
use Rattle.lis_record_values.specs.declared.kinds.Kind.{Kind}
use Rattle.lis_record_values.specs.declared.kinds.Kind.TheVariants as kinds
use Rattle.lis_record_values.specs.Shape.{RecordContent}
use Rattle.lis_tree.specs.Nodes.{Annotated, OrderTree, PatientTree}
use Rattle.lis_tree.specs.declared.tree.Group.{Group}
use Rattle.lis_tree.specs.declared.tree.Group.TheVariants as groups
use Rattle.lis_tree.specs.Results.{listed_results, patient_after, order_after, results_among, result_record}
use Rattle.lis_tree.specs.Results.{under_order}
use Rattle.lis_tree.specs.Results.{order_results, group_results, results_of, order_left, results_left}
use Rattle.lis_tree.specs.Tree.{MessageTree, IsTree, IsNote, AreNotes, IsAnnotated, IsOrder, IsGroup, flatten}
use Rattle.lis_tree.specs.Tree.{annotated_records, order_records, patient_records, group_records}

skip_note : (p o : Option RecordContent) (r : RecordContent) (k : Kind) → IsNote k → (listed_results p o r k ≡ [])
    × (patient_after p r k ≡ p) × (order_after o r k ≡ o)
skip_note p o r kinds.C h = (refl, refl, refl)
skip_note p o r kinds.M h = (refl, refl, refl)
skip_note p o r kinds.S h = (refl, refl, refl)
skip_note p o r k h = absurd h

-- a record of this kind
following_one : (p o : Option RecordContent) (r : RecordContent) (rest : List RecordContent) (k : Kind) → r.kind ≡ k
    → results_among p o (r ∷ rest) ≡ listed_results p o r k ++ results_among (patient_after p r k) (order_after o r k)
    rest
following_one p o r rest k e = ap (λ k. listed_results p o r k
    ++ results_among (patient_after p r k) (order_after o r k) rest) e

following_notes : (p o : Option RecordContent) (notes rest : List RecordContent) → AreNotes notes
    → results_among p o (notes ++ rest) ≡ results_among p o rest
following_notes p o [] rest h = refl
following_notes p o (r ∷ notes) rest (h, hs) =
    let s = skip_note p o r r.kind h in
    rw (s.0, s.1, s.2) (following_notes p o notes rest hs)

-- a record of this kind with its notes
following_annotated : (p o : Option RecordContent) (n : Annotated) (rest : List RecordContent) (k : Kind)
    → IsAnnotated k n
    → results_among p o (annotated_records n ++ rest)
    ≡ listed_results p o n.head k ++ results_among (patient_after p n.head k) (order_after o n.head k) rest
following_annotated p o n rest k is =
    following_one p o n.head (n.notes ++ rest) k is.head
    ∙ ap (λ reported. listed_results p o n.head k ++ reported)
    (following_notes (patient_after p n.head k) (order_after o n.head k) n.notes rest is.notes)

of_entries : (p : PatientTree) (o : OrderTree) (es : List Annotated) (rest : List RecordContent)
    → AllByRecursion (IsAnnotated kinds.R) es
    → results_among (Some p.top.head) (Some o.top.head) (flat_map annotated_records es ++ rest)
    ≡ map result_record (under_order p o es) ++ results_among (Some p.top.head) (Some o.top.head) rest
of_entries p o [] rest h = refl
of_entries p o (e ∷ es) rest (h, hs) =
    ap (results_among (Some p.top.head) (Some o.top.head))
    (append_assoc (annotated_records e) (flat_map annotated_records es) rest)
    ∙ following_annotated (Some p.top.head) (Some o.top.head) e (flat_map annotated_records es ++ rest) kinds.R h
    ∙ ap (λ reported. result_record (record { patient = p; order = o; entry = e }) ∷ reported)
    (of_entries p o es rest hs)

of_orders : (p : PatientTree) (before : Option RecordContent) (os : List OrderTree) (rest : List RecordContent)
    → AllByRecursion IsOrder os
    → ((o : Option RecordContent) → results_among (Some p.top.head) o rest ≡ results_among None None rest)
    → results_among (Some p.top.head) before (flat_map order_records os ++ rest)
    ≡ map result_record (flat_map (order_results p) os) ++ results_among None None rest
of_orders p before [] rest h same = same before
of_orders p before (o ∷ os) rest (h, hs) same =
    let others = flat_map order_records os in
    let entries = flat_map annotated_records o.below in
    ap (results_among (Some p.top.head) before) (append_assoc (order_records o) others rest
    ∙ append_assoc (annotated_records o.top) entries (others ++ rest))
    ∙ following_annotated (Some p.top.head) before o.top (entries ++ (others ++ rest)) kinds.O h.top
    ∙ of_entries p o o.below (others ++ rest) h.below
    ∙ ap (λ reported. map result_record (order_results p o) ++ reported) (of_orders p (Some o.top.head) os rest hs same)
    ∙ sym (append_assoc (map result_record (order_results p o)) (map result_record (flat_map (order_results p) os))
    (results_among None None rest))
    ∙ ap (λ reported. reported ++ results_among None None rest)
    (sym (map-append result_record (order_results p o) (flat_map (order_results p) os)))

-- whatever is before groups, since each begins with a patient or a query
of_groups : (p o : Option RecordContent) (gs : List Group) (closing : RecordContent) → closing.kind ≡ kinds.L
    → AllByRecursion IsGroup gs
    → results_among p o (flat_map group_records gs ++ closing ∷ []) ≡ map result_record (flat_map group_results gs)
of_groups p o [] closing end h = following_one p o closing [] kinds.L end
of_groups p o (groups.Patient q ∷ gs) closing end (h, hs) =
    let others = flat_map group_records gs in
    let orders = flat_map order_records q.below in
    let rest = others ++ closing ∷ [] in
    ap (results_among p o) (append_assoc (patient_records q) others (closing ∷ [])
    ∙ append_assoc (annotated_records q.top) orders rest)
    ∙ following_annotated p o q.top (orders ++ rest) kinds.P h.top
    ∙ of_orders q None q.below rest h.below (λ b. of_groups (Some q.top.head) b gs closing end hs
    ∙ sym (of_groups None None gs closing end hs))
    ∙ ap (λ reported. map result_record (flat_map (order_results q) q.below) ++ reported)
    (of_groups None None gs closing end hs)
    ∙ sym (map-append result_record (flat_map (order_results q) q.below) (flat_map group_results gs))
of_groups p o (groups.Query q ∷ gs) closing end (h, hs) =
    let others = flat_map group_records gs in
    ap (results_among p o) (append_assoc (annotated_records q) others (closing ∷ []))
    ∙ following_annotated p o q (others ++ closing ∷ []) kinds.Q h
    ∙ of_groups None None gs closing end hs

pub results_are_listed : (m : MessageTree) → IsTree m
    → map result_record (results_of m) ≡ results_among None None (flatten m)
results_are_listed m h =
    let all = flat_map group_records m.groups in
    let rest = all ++ m.closing ∷ [] in
    sym (ap (results_among None None) (append_assoc (m.header ∷ m.notes) all (m.closing ∷ []))
    ∙ following_one None None m.header (m.notes ++ rest) kinds.H h.header ∙ following_notes None None m.notes rest
    h.notes
    ∙ of_groups None None m.groups m.closing h.closing h.groups)

-- ---- while they are gone over

-- on to the next order of the patient, where no result is left of the one before
pub next_order : (patient : Option (Bor PatientTree)) (before : Option OrderTree) (left : List Annotated)
    (order : OrderTree) (orders rest : List OrderTree) (following : List Group) → true ≡ is_some patient
    → order_left (option_copied patient) before left ≡ [] → orders ≡ order ∷ rest
    → results_left (record {
      patient = option_copied patient;
      order = Some order;
      entries = order.below;
      orders = rest;
      groups = following;
    })
    ≡ results_left (record {
      patient = option_copied patient;
      order = before;
      entries = left;
      orders = orders;
      groups = following;
    })
next_order (Some p) before left order orders rest following some none is =
    rw (none, is) refl
next_order None before left order orders rest following some none is = cc
