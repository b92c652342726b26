-- Each note of a tree is one on the last record before it that is no note.
use Rattle.std.proofs.Common.{◌≡◌, List, [], ◌∷◌, ◌++◌, Some, map, refl, sym, ◌∙◌, ap, subst, append_assoc}
use Rattle.std.specs.List.{AllByRecursion, flat_map}
use Rattle.std.proofs.lemmas.List.{append-nil}
use Rattle.lis_record_values.specs.declared.kinds.Kind.{Kind}
use Rattle.lis_record_values.specs.declared.kinds.Kind.TheVariants as kinds
use Rattle.lis_record_values.specs.Shape.{RecordContent}
use Rattle.lis_tree.specs.Nodes.{Branch, Annotated, OrderTree, PatientTree}
use Rattle.lis_tree.specs.declared.tree.Group.{Group}
use Rattle.lis_tree.specs.declared.tree.Group.TheVariants as groups
use Rattle.lis_tree.specs.Notes.{Placed, placed_branch, placed_notes, placed_annotated, placed_order, placed_patient}
use Rattle.lis_tree.specs.Notes.{placed_group}
use Rattle.lis_tree.specs.Notes.{placed, IsLastHead, IsNoteOn}
use Rattle.lis_tree.proofs.Flatten.{front_is, front_tree}
use Rattle.lis_tree.specs.Tree.{MessageTree, annotated_records, order_records, patient_records, group_records, flatten}
use Rattle.lis_tree.specs.Tree.{IsBranch, IsNote, AreNotes, IsAnnotated, IsOrder, IsPatient, IsGroup, IsTree}
use Rattle.lis_tree.specs.Tree.{branch_records}

-- what is after some records is noted as it should be
abbrev AreNotesOn : List RecordContent → List Placed → Type 0
AreNotesOn before [] = Unit {0}
AreNotesOn before (p ∷ ps) = IsNoteOn before p.content p.note_on × AreNotesOn (before ++ p.content ∷ []) ps

abbrev contents : List Placed → List RecordContent
contents = map (λ p. p.content)

more : (before : List RecordContent) (r : RecordContent) (rs : List RecordContent)
    → (before ++ r ∷ []) ++ rs ≡ before ++ r ∷ rs
more before r rs = append_assoc before (r ∷ []) rs

both_annotated : (before : List RecordContent) (ps qs : List Placed) → AreNotesOn before ps
    → AreNotesOn (before ++ contents ps) qs → AreNotesOn before (ps ++ qs)
both_annotated before [] qs a b = subst (λ l. AreNotesOn l qs) (append-nil before) b
both_annotated before (p ∷ ps) qs a b = (
  a.0,
  both_annotated (before ++ p.content ∷ []) ps qs a.1
      (subst (λ l. AreNotesOn l qs) (sym (more before p.content (contents ps))) b),
)

all_annotated : {X : Type 0} (f : X → List Placed) (Is : X → Type 0)
    (one : (x : X) → Is x → (before : List RecordContent) → AreNotesOn before (f x)) (xs : List X)
    → AllByRecursion Is xs → (before : List RecordContent) → AreNotesOn before (flat_map f xs)
all_annotated f Is one [] a before = tt
all_annotated f Is one (x ∷ xs) a before =
    both_annotated before (f x) (flat_map f xs) (one x a.0 before) (all_annotated f Is one xs a.1
    (before ++ contents (f x)))

notes_append : (xs ys : List RecordContent) → AreNotes xs → AreNotes ys → AreNotes (xs ++ ys)
notes_append [] ys a b = b
notes_append (x ∷ xs) ys a b = (a.0, notes_append xs ys a.1 b)

still_last : (records : List RecordContent) (head note : RecordContent) → IsLastHead records head → IsNote note.kind
    → IsLastHead (records ++ note ∷ []) head
still_last records head note l is = record {
  before = l.before;
  notes = l.notes ++ note ∷ [];
  whole = ap (λ rs. rs ++ note ∷ []) l.whole ∙ append_assoc l.before (head ∷ l.notes) (note ∷ []);
  is_no_note = l.is_no_note;
  are_notes = notes_append l.notes (note ∷ []) l.are_notes (is, tt);
}

notes_annotated : (head : RecordContent) (notes : List RecordContent) → AreNotes notes → (before : List RecordContent)
    → IsLastHead before head → AreNotesOn before (map (λ note. record { content = note; note_on = Some head }) notes)
notes_annotated head [] a before l = tt
notes_annotated head (n ∷ ns) a before l =
    ((a.0, l), notes_annotated head ns a.1 (before ++ n ∷ []) (still_last before head n l a.0))

head_annotated : (head : RecordContent) (notes : List RecordContent) → (IsNote head.kind → ⊥) → AreNotes notes
    → (before : List RecordContent) → AreNotesOn before (placed_notes head notes)
head_annotated head notes never a before = (
  never,
  notes_annotated head notes a (before ++ head ∷ [])
      (record { before = before; notes = []; whole = refl; is_no_note = never; are_notes = tt }),
)

no_note : (r : RecordContent) (k : Kind) → (IsNote k → ⊥) → r.kind ≡ k → IsNote r.kind → ⊥
no_note r k never e is = never (subst IsNote e is)

annotated_annotated : (k : Kind) → (IsNote k → ⊥) → (n : Annotated) → IsAnnotated k n → (before : List RecordContent)
    → AreNotesOn before (placed_annotated n)
annotated_annotated k never n is = head_annotated n.head n.notes (no_note n.head k never is.head) is.notes

branch_annotated : {X : Type 0} (f : X → List Placed) (Is : X → Type 0)
    (one : (x : X) → Is x → (before : List RecordContent) → AreNotesOn before (f x)) (k : Kind) → (IsNote k → ⊥)
    → (b : Branch X) → IsBranch k Is b → (before : List RecordContent) → AreNotesOn before (placed_branch f b)
branch_annotated f Is one k never b is before =
    both_annotated before (placed_annotated b.top) (flat_map f b.below) (annotated_annotated k never b.top is.top
    before)
    (all_annotated f Is one b.below is.below (before ++ contents (placed_annotated b.top)))

order_annotated : (o : OrderTree) → IsOrder o → (before : List RecordContent) → AreNotesOn before (placed_order o)
order_annotated = branch_annotated placed_annotated (IsAnnotated kinds.R) (annotated_annotated kinds.R (λ n. n)) kinds.O
    (λ n. n)

patient_annotated : (p : PatientTree) → IsPatient p → (before : List RecordContent) → AreNotesOn before
    (placed_patient p)
patient_annotated = branch_annotated placed_order IsOrder order_annotated kinds.P (λ n. n)

group_annotated : (g : Group) → IsGroup g → (before : List RecordContent) → AreNotesOn before (placed_group g)
group_annotated (groups.Patient p) is = patient_annotated p is
group_annotated (groups.Query q) is = annotated_annotated kinds.Q (λ n. n) q is

tree_annotated : (m : MessageTree) → IsTree m → AreNotesOn [] (placed m)
tree_annotated m is =
    let front = placed_branch placed_group (front_tree m) in
    both_annotated [] front (placed_notes m.closing [])
    (branch_annotated placed_group IsGroup group_annotated kinds.H (λ n. n) (front_tree m) (front_is m is) [])
    (head_annotated m.closing [] (no_note m.closing kinds.L (λ n. n) is.closing) tt (contents front))

at_place : (start : List RecordContent) (ps before following : List Placed) (p : Placed) → AreNotesOn start ps
    → ps ≡ before ++ p ∷ following → IsNoteOn (start ++ contents before) p.content p.note_on
at_place start [] [] following p a e = absurd cc
at_place start [] (b ∷ bs) following p a e = absurd cc
at_place start (q ∷ qs) [] following p a e =
    let same : q ≡ p = cc in
    subst (λ l. IsNoteOn l p.content p.note_on) (sym (append-nil start))
    (subst (λ (x : Placed). IsNoteOn start x.content x.note_on) same a.0)
at_place start (q ∷ qs) (b ∷ bs) following p a e =
    let same : q ≡ b = cc in
    let others : qs ≡ bs ++ p ∷ following = cc in
    subst (λ l. IsNoteOn l p.content p.note_on)
    (ap (λ (x : Placed). (start ++ x.content ∷ []) ++ contents bs) same ∙ more start b.content (contents bs))
    (at_place (start ++ q.content ∷ []) qs bs following p a.1 others)

pub notes_placed : (m : MessageTree) → IsTree m → (before following : List Placed) (p : Placed)
    → placed m ≡ before ++ p ∷ following → IsNoteOn (contents before) p.content p.note_on
notes_placed m is before following p e = at_place [] (placed m) before following p (tree_annotated m is) e

contents_append : (ps qs : List Placed) → contents (ps ++ qs) ≡ contents ps ++ contents qs
contents_append [] qs = refl
contents_append (p ∷ ps) qs = ap (λ l. p.content ∷ l) (contents_append ps qs)

contents_flat : {X : Type 0} (f : X → List Placed) (g : X → List RecordContent) (one : (x : X) → contents (f x) ≡ g x)
    (xs : List X) → contents (flat_map f xs) ≡ flat_map g xs
contents_flat f g one [] = refl
contents_flat f g one (x ∷ xs) =
    contents_append (f x) (flat_map f xs) ∙ ap (λ l. l ++ contents (flat_map f xs)) (one x)
    ∙ ap (λ l. g x ++ l) (contents_flat f g one xs)

contents_notes : (head : RecordContent) (notes : List RecordContent) → contents (placed_notes head notes) ≡ head ∷ notes
contents_notes head [] = refl
contents_notes head (n ∷ ns) = ap (λ (l : List RecordContent). head ∷ n ∷ l) (let e = contents_notes head ns in cc)

contents_annotated : (n : Annotated) → contents (placed_annotated n) ≡ annotated_records n
contents_annotated n = contents_notes n.head n.notes

contents_branch : {X : Type 0} (f : X → List Placed) (g : X → List RecordContent)
    (one : (x : X) → contents (f x) ≡ g x) (b : Branch X) → contents (placed_branch f b) ≡ branch_records g b
contents_branch f g one b =
    contents_append (placed_annotated b.top) (flat_map f b.below)
    ∙ ap (λ l. l ++ contents (flat_map f b.below)) (contents_annotated b.top)
    ∙ ap (λ l. annotated_records b.top ++ l) (contents_flat f g one b.below)

contents_order : (o : OrderTree) → contents (placed_order o) ≡ order_records o
contents_order = contents_branch placed_annotated annotated_records contents_annotated

contents_patient : (p : PatientTree) → contents (placed_patient p) ≡ patient_records p
contents_patient = contents_branch placed_order order_records contents_order

contents_group : (g : Group) → contents (placed_group g) ≡ group_records g
contents_group (groups.Patient p) = contents_patient p
contents_group (groups.Query q) = contents_annotated q

pub placed_flatten : (m : MessageTree) → contents (placed m) ≡ flatten m
placed_flatten m =
    contents_append (placed_branch placed_group (front_tree m)) (placed_notes m.closing [])
    ∙ ap (λ l. l ++ m.closing ∷ []) (contents_branch placed_group group_records contents_group (front_tree m))
