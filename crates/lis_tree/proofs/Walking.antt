-- What is left of a walk, before its next record and after it.
use Rattle.std.proofs.Common.{◌≡◌, List, ◌∷◌, ◌++◌, Option, None, append-nil, length, refl}
use Rattle.std.specs.Option.{option_to_list}
use Rattle.std.proofs.lemmas.List.{nil_from_length}
use Rattle.lis_record_values.specs.Shape.{RecordContent}
use Rattle.lis_tree.specs.Nodes.{Annotated, OrderTree, PatientTree}
use Rattle.lis_tree.specs.declared.tree.Group.{Group}
use Rattle.lis_tree.specs.declared.tree.Group.TheVariants as groups
use Rattle.lis_tree.specs.Walk.{walk_records}

-- before the next record, where its head was reported
module _
    (head : Option RecordContent) (notes : List RecordContent) (results : List Annotated) (orders : List OrderTree)
    (below : List Group) (closing : Option RecordContent) (no_head : head ≡ None) where
  abbrev left : List RecordContent
  left = walk_records head notes results orders below closing

  pub note_next : (note : RecordContent) (rest : List RecordContent) → notes ≡ note ∷ rest
      → left ≡ note ∷ walk_records head rest results orders below closing
  note_next note rest is = rw (no_head, is) refl

  -- the next record is the head of a node, and its notes come after it
  module _ (no_notes : length notes ≡ 0) (next : RecordContent) (more : List RecordContent) where
    pub result_next : (entry : Annotated) (rest : List Annotated) → results ≡ entry ∷ rest → next ≡ entry.head
        → more ≡ entry.notes → left ≡ next ∷ walk_records head more rest orders below closing
    result_next entry rest is head_is notes_are =
        rw (no_head, nil_from_length notes no_notes, is, head_is, notes_are) refl

    pub order_next : (order : OrderTree) (rest : List OrderTree) (entries : List Annotated)
        → length results ≡ 0 → orders ≡ order ∷ rest → next ≡ order.top.head → more ≡ order.top.notes
        → entries ≡ order.below → left ≡ next ∷ walk_records head more entries rest below closing
    order_next order rest entries none is head_is notes_are entries_are =
        rw (no_head, nil_from_length notes no_notes, nil_from_length results none, is, head_is, notes_are, entries_are)
        refl

    pub patient_next : (patient : PatientTree) (rest : List Group) (new : List OrderTree) → length results ≡ 0
        → length orders ≡ 0 → below ≡ groups.Patient patient ∷ rest → next ≡ patient.top.head
        → more ≡ patient.top.notes → new ≡ patient.below
        → left ≡ next ∷ walk_records head more results new rest closing
    patient_next patient rest new none no_orders is head_is notes_are orders_are =
        rw (no_head, nil_from_length notes no_notes, nil_from_length results none, nil_from_length orders no_orders)
        (rw (is, head_is, notes_are, orders_are, append-nil) refl)

    pub query_next : (query : Annotated) (rest : List Group) → length results ≡ 0 → length orders ≡ 0
        → below ≡ groups.Query query ∷ rest → next ≡ query.head → more ≡ query.notes
        → left ≡ next ∷ walk_records head more results orders rest closing
    query_next query rest none no_orders is head_is notes_are =
        rw (no_head, nil_from_length notes no_notes, nil_from_length results none, nil_from_length orders no_orders)
        (rw (is, head_is, notes_are, append-nil query.notes, append-nil query.notes) refl)

  -- at the end the record that closes the message is left, or nothing
  pub closing_next : length notes ≡ 0 → length results ≡ 0 → length orders ≡ 0 → length below ≡ 0
      → left ≡ option_to_list closing ++ walk_records head notes results orders below None
  closing_next no_notes no_results no_orders none =
      rw (no_head, nil_from_length notes no_notes, nil_from_length results no_results)
      (rw (nil_from_length orders no_orders, nil_from_length below none, append-nil (option_to_list closing)) refl)
