-- A record that may be after the last node may join it.
use Rattle.std.proofs.Common.{◌≡◌, ◌≢◌, List, [], ◌∷◌, ◌++◌, None, Some, ◌-◌, length, slice_get, Bool, ◌==◌}
use Rattle.std.proofs.Common.{if◌then◌else◌, refl, sym, ◌∙◌, ap, subst}
use Rattle.lis_record_values.specs.declared.kinds.Kind.{Kind}
use Rattle.lis_record_values.specs.declared.kinds.Kind.TheVariants as kinds
use Rattle.lis_tree.specs.Level.{Level, in_header, in_order, in_patient, in_query, misplaced}
use Rattle.lis_tree.specs.Nodes.{Branch, Annotated, OrderTree, PatientTree}
use Rattle.lis_tree.specs.Tree.{IsNote, IsAnnotated}
use Rattle.lis_record_values.specs.Shape.{RecordContent}
use Rattle.std.proofs.Math.Dec.{eqb-suc-zero}
use Rattle.std.proofs.ByRecursion.{All-append}
use Rattle.lis_tree.proofs.Last.{is_last}
use Rattle.lis_tree.specs.declared.tree.Group.{Group}
use Rattle.lis_tree.specs.declared.tree.Group.TheVariants as groups
use Rattle.lis_tree.specs.inside.Front.{front_level, group_level, groups_level, orders_level}
use Rattle.lis_tree.specs.inside.Joining.{JoinsGroup, JoinsOrder, JoinsPatient}
use Rattle.lis_tree.specs.inside.Last.{IsLast}

-- no patient, query or closing record
abbrev IsBelow : Kind → Type 0
IsBelow k = (k ≢ kinds.P) × (k ≢ kinds.Q) × (k ≢ kinds.L)

level_following : (level : Level) (front : List Group) (g : Group) → groups_level level (front ++ g ∷ [])
    ≡ group_level g
level_following level [] g = refl
level_following level (f ∷ front) g = level_following (group_level f) front g

-- right under a query only a note, and the same right under a header
query_note : (k : Kind) → IsBelow k → misplaced in_query k ≡ None → IsNote k
query_note kinds.H other may = cc
query_note kinds.P other may = absurd (other.0 refl)
query_note kinds.O other may = cc
query_note kinds.R other may = cc
query_note kinds.Q other may = absurd (other.1 refl)
query_note kinds.L other may = absurd (other.2 refl)
query_note k other may = tt

same_may : (k : Kind) → misplaced in_header k ≡ misplaced in_query k
same_may kinds.H = refl
same_may kinds.O = refl
same_may kinds.R = refl
same_may k = refl

patient_joined : (orders : List OrderTree) (k : Kind) → IsBelow k → misplaced (orders_level in_patient orders) k ≡ None
    → JoinsPatient orders k
patient_joined [] kinds.H other may = cc
patient_joined [] kinds.P other may = absurd (other.0 refl)
patient_joined [] kinds.O other may = tt
patient_joined [] kinds.R other may = cc
patient_joined [] kinds.Q other may = absurd (other.1 refl)
patient_joined [] kinds.L other may = absurd (other.2 refl)
patient_joined [] k other may = tt
patient_joined (o ∷ orders) kinds.H other may = cc
patient_joined (o ∷ orders) kinds.P other may = absurd (other.0 refl)
patient_joined (o ∷ orders) kinds.Q other may = absurd (other.1 refl)
patient_joined (o ∷ orders) kinds.L other may = absurd (other.2 refl)
patient_joined (o ∷ orders) k other may = tt

group_joined : (g : Group) (k : Kind) → IsBelow k → misplaced (group_level g) k ≡ None → JoinsGroup g k
group_joined (groups.Query q) k other may = query_note k other may
group_joined (groups.Patient p) k other may = patient_joined p.below k other may

pub joins_last : (f : Branch Group) (g : Group) (k : Kind) → IsLast f.below g → k ≢ kinds.P → k ≢ kinds.Q
    → k ≢ kinds.L → misplaced (front_level f) k ≡ None → JoinsGroup g k
joins_last f g k last p q l may =
    let level : front_level f ≡ group_level g = ap (groups_level in_header) last.1 ∙ level_following in_header last.0 g
    in
    group_joined g k (p, q, l) (ap (λ (v : Level). misplaced v k) (sym level) ∙ may)

pub joins_header : (f : Branch Group) (k : Kind) → f.below ≡ [] → k ≢ kinds.P → k ≢ kinds.Q → k ≢ kinds.L
    → misplaced (front_level f) k ≡ None → IsNote k
joins_header f k none p q l may =
    query_note k (p, q, l)
    (sym (same_may k) ∙ ap (λ (gs : List Group). misplaced (groups_level in_header gs) k) (sym none) ∙ may)

-- a record that joins a patient with orders, and is no order, joins the last
pub joins_order : (orders : List OrderTree) (o : OrderTree) (k : Kind) → IsLast orders o → k ≢ kinds.O
    → JoinsPatient orders k → JoinsOrder k
joins_order [] o k ([], is) other joins = absurd cc
joins_order [] o k (x ∷ front, is) other joins = absurd cc
joins_order (x ∷ orders) o kinds.O last other joins = absurd (other refl)
joins_order (x ∷ orders) o k last other joins = joins

note_of : (k : Kind) → k ≢ kinds.R → JoinsOrder k → IsNote k
note_of kinds.R other joins = absurd (other refl)
note_of k other joins = joins

-- a note that joins a result
pub note_joins : (n m : Annotated) (r : RecordContent) → m ≡ record { head = n.head; notes = n.notes ++ r ∷ [] }
    → r.kind ≢ kinds.R → IsAnnotated kinds.R n → JoinsOrder r.kind → IsAnnotated kinds.R m
note_joins n m r is other annotated joins = subst (IsAnnotated kinds.R) (sym is) (record {
  head = annotated.head;
  notes = All-append (λ (s : RecordContent). IsNote s.kind) n.notes (r ∷ []) annotated.notes
      (note_of r.kind other joins, tt);
})

-- the last patient or query says where the next record is
pub level_by_last : (f : Branch Group) (g : Group) → slice_get f.below (length f.below - 1) ≡ Some g
    → front_level f ≡ group_level g
level_by_last f g at =
    let last = is_last f.below g at in ap (groups_level in_header) last.1 ∙ level_following in_header last.0 g

by_length : (orders : List OrderTree)
    → orders_level in_patient orders ≡ if length orders == 0 then in_patient else in_order
by_length [] = refl
by_length (o ∷ orders) = ap (λ (b : Bool). if b then in_patient else in_order) (sym (eqb-suc-zero (length orders)))

-- where the last is a patient, by the orders
pub level_of_orders : (f : Branch Group) (p : PatientTree) → slice_get f.below (length f.below - 1)
    ≡ Some (groups.Patient p) → (orders : List OrderTree) → orders ≡ p.below → (b : Bool) → b ≡ (length orders == 0)
    → front_level f ≡ if b then in_patient else in_order
level_of_orders f p at orders is b empty = level_by_last f (groups.Patient p) at
    ∙ ap (orders_level in_patient) (sym is) ∙ by_length orders
    ∙ ap (λ (c : Bool). if c then in_patient else in_order) (sym empty)
