-- The results by the parents of a table are the result records of the message, each under the last order and the last
-- patient before it.
use Rattle.std.proofs.Common.{◌≡◌, ℕ, ◌+◌, List, [], ◌∷◌, ◌++◌, length, map, refl, sym, ◌∙◌, ap, append_assoc}
use Rattle.std.proofs.Common.{arith, Option, None, Some, length-append}
use Rattle.std.specs.List.{flat_map}
use Rattle.std.specs.Prelude.{slice_get, slice_index, ⊤}
use Rattle.lis_record_values.specs.declared.kinds.Kind.{Kind}
use Rattle.lis_record_values.specs.declared.kinds.Kind.TheVariants as kinds
use Rattle.lis_record_values.specs.Shape.{RecordContent}
use Rattle.lis_tree.specs.Level.{AllowedFrom, Level, closed, in_header, in_order, in_patient, in_query, kinds_of}
use Rattle.lis_tree.specs.Level.{misplaced, next_level, outside}
use Rattle.lis_tree.specs.Results.{ResultRecord, listed_results, order_after, patient_after, result_record}
use Rattle.lis_tree.specs.Results.{results_among, results_of}
use Rattle.lis_tree.specs.Tree.{MessageTree, flatten}
use Rattle.lis_tree.proofs.ListFaults.{tree_kinds}
use Rattle.lis_tree.proofs.ResultLaws.{results_are_listed}
use Rattle.lis_message_table.proofs.ParentLaws.{above_more, parents_are}
use Rattle.lis_message_table.proofs.TableLaws.{contents}
use Rattle.lis_message_table.specs.Results.{listed_at, results_in}
use Rattle.lis_message_table.specs.Table.{IsTableOf, Table, contents_of, record_at}
use Rattle.lis_message_table.specs.declared.above.Above.{Above}
use Rattle.lis_message_table.specs.declared.places.RecordPlace.{RecordPlace}
use Rattle.lis_message_table.specs.inside.Above.{above_after, above_all, nothing_above, parent_of, parents_from}

-- a result that is under the record of this index
abbrev listed_by : (all : List RecordContent) (parents : List ℕ) → RecordContent → ℕ → Kind → List ResultRecord
listed_by all parents r q kinds.R =
    record { patient = slice_get all (slice_index parents q); order = slice_get all q; entry = r } ∷ []
listed_by all parents r q kind = []

-- the results among records that are under these
abbrev results_by : (all : List RecordContent) (parents : List ℕ) → List RecordContent → List ℕ → List ResultRecord
results_by all parents [] qs = []
results_by all parents (r ∷ rs) [] = []
results_by all parents (r ∷ rs) (q ∷ qs) = listed_by all parents r q r.kind ++ results_by all parents rs qs

-- ---- the table's

one_listed : (t : Table) (p : RecordPlace) (k : Kind)
    → listed_at t p k ≡ listed_by (contents_of t) (map (λ (x : RecordPlace). x.parent) t.places)
    (record_at t p).content p.parent k
one_listed t p kinds.R = refl
one_listed t p k = refl

in_lists : (t : Table) (places : List RecordPlace)
    → flat_map (λ (p : RecordPlace). listed_at t p p.kind) places
    ≡ results_by (contents_of t) (map (λ (x : RecordPlace). x.parent) t.places)
    (map (λ (p : RecordPlace). (record_at t p).content) places) (map (λ (x : RecordPlace). x.parent) places)
in_lists t [] = refl
in_lists t (p ∷ places) =
    ap (λ (l : List ResultRecord). l ++ flat_map (λ (q : RecordPlace). listed_at t q q.kind) places)
    (one_listed t p p.kind)
    ∙ ap (λ (l : List ResultRecord). listed_by (contents_of t) (map (λ (x : RecordPlace). x.parent) t.places)
    (record_at t p).content p.parent p.kind ++ l) (in_lists t places)

-- ---- while the records pass

-- the last patient and the last order are where the next record looks for them
abbrev IsKept : (all : List RecordContent) (parents : List ℕ) → Above → Level → Option RecordContent
    → Option RecordContent → Type 0
IsKept all parents a in_patient p o = slice_get all a.patient ≡ p
IsKept all parents a in_order p o =
    (slice_get all a.patient ≡ p) × (slice_get all a.order ≡ o) × (slice_index parents a.order ≡ a.patient)
IsKept all parents a level p o = ⊤

module _ (all : List RecordContent) (parents : List ℕ) (a : Above) (i : ℕ) (p o : Option RecordContent)
    (r : RecordContent)
  where
    -- a record more
    kept_after : (level : Level) (k : Kind) → misplaced level k ≡ None → slice_get all i ≡ Some r
        → slice_index parents i ≡ parent_of a k → IsKept all parents a level p o
        → IsKept all parents (above_after a i k) (next_level level k) (patient_after p r k) (order_after o r k)
    kept_after level kinds.H allowed here parent kept = tt
    kept_after level kinds.P allowed here parent kept = here
    kept_after in_patient kinds.O allowed here parent kept = (kept, here, parent)
    kept_after in_order kinds.O allowed here parent kept = (kept.0, here, parent)
    kept_after outside kinds.O allowed here parent kept = absurd cc
    kept_after in_header kinds.O allowed here parent kept = absurd cc
    kept_after in_query kinds.O allowed here parent kept = absurd cc
    kept_after closed kinds.O allowed here parent kept = absurd cc
    kept_after in_order kinds.R allowed here parent kept = kept
    kept_after in_patient kinds.R allowed here parent kept = kept
    kept_after level kinds.R allowed here parent kept = absurd cc
    kept_after level kinds.C allowed here parent kept = kept
    kept_after level kinds.Q allowed here parent kept = tt
    kept_after level kinds.M allowed here parent kept = kept
    kept_after level kinds.S allowed here parent kept = kept
    kept_after level kinds.L allowed here parent kept = tt

    -- a result is under these two
    listed_same : (level : Level) (k : Kind) → misplaced level k ≡ None → IsKept all parents a level p o
        → listed_by all parents r (parent_of a k) k ≡ listed_results p o r k
    listed_same in_order kinds.R allowed kept =
        let make : Option RecordContent → Option RecordContent → List ResultRecord =
        λ x y. record { patient = x; order = y; entry = r } ∷ [] in
        ap (λ (x : Option RecordContent). make x (slice_get all a.order)) (ap (slice_get all) kept.2 ∙ kept.0)
        ∙ ap (make p) kept.1
    listed_same level kinds.R allowed kept = absurd cc
    listed_same level k allowed kept = refl

slice_here : (done : List RecordContent) (r : RecordContent) (rest : List RecordContent)
    → slice_get (done ++ r ∷ rest) (length done) ≡ Some r
slice_here [] r rest = refl
slice_here (x ∷ done) r rest = slice_here done r rest

index_here : (a : Above) (i : ℕ) (done : List RecordContent) (r : RecordContent) (rest : List RecordContent)
    → slice_index (parents_from a i (done ++ r ∷ rest)) (length done) ≡ parent_of (above_all a i done) r.kind
index_here a i [] r rest = refl
index_here a i (x ∷ done) r rest = index_here (above_after a i x.kind) (i + 1) done r rest

results_on : (all done rest : List RecordContent) (a : Above) (i : ℕ) (level : Level) (p o : Option RecordContent)
    → all ≡ done ++ rest → a ≡ above_all nothing_above 0 done → i ≡ length done
    → AllowedFrom level (kinds_of rest) → IsKept all (parents_from nothing_above 0 all) a level p o
    → results_by all (parents_from nothing_above 0 all) rest (parents_from a i rest) ≡ results_among p o rest
results_on all done [] a i level p o whole above index allowed kept = refl
results_on all done (r ∷ rest) a i level p o whole above index allowed kept =
    let parents = parents_from nothing_above 0 all in
    let here : slice_get all i ≡ Some r =
    ap (slice_get all) index ∙ ap (λ (l : List RecordContent). slice_get l (length done)) whole
    ∙ slice_here done r rest in
    let parent : slice_index parents i ≡ parent_of a r.kind =
    ap (slice_index parents) index
    ∙ ap (λ (l : List RecordContent). slice_index (parents_from nothing_above 0 l) (length done)) whole
    ∙ index_here nothing_above 0 done r rest ∙ ap (λ (b : Above). parent_of b r.kind) (sym above) in
    let longer : all ≡ (done ++ r ∷ []) ++ rest = whole ∙ sym (append_assoc done (r ∷ []) rest) in
    let at_next : i ≡ 0 + length done = omega (arith, index) in
    let after : above_after a i r.kind ≡ above_all nothing_above 0 (done ++ r ∷ []) =
    ap (λ (b : Above). above_after b i r.kind) above
    ∙ ap (λ (n : ℕ). above_after (above_all nothing_above 0 done) n r.kind) at_next
    ∙ sym (above_more nothing_above 0 done r) in
    let count : i + 1 ≡ length (done ++ r ∷ []) = omega (arith, index, length-append done (r ∷ [])) in
    ap (λ (l : List ResultRecord). l ++ results_by all parents rest
    (parents_from (above_after a i r.kind) (i + 1) rest))
    (listed_same all parents a i p o r level r.kind allowed.0 kept)
    ∙ ap (λ (l : List ResultRecord). listed_results p o r r.kind ++ l)
    (results_on all (done ++ r ∷ []) rest (above_after a i r.kind) (i + 1) (next_level level r.kind)
    (patient_after p r r.kind) (order_after o r r.kind) longer after count allowed.1
    (kept_after all parents a i p o r level r.kind allowed.0 here parent kept))

pub results_are : (t : Table) (m : MessageTree) → IsTableOf t m → results_in t ≡ map result_record (results_of m)
results_are t m is =
    let records = flatten m in
    let parents = parents_from nothing_above 0 records in
    let under : map (λ (p : RecordPlace). p.parent) t.places ≡ parents =
    is.parents ∙ sym (parents_are m is.message.tree) in
    in_lists t t.places
    ∙ ap (λ (l : List RecordContent). results_by l (map (λ (p : RecordPlace). p.parent) t.places) l
    (map (λ (p : RecordPlace). p.parent) t.places)) (contents t m is)
    ∙ ap (λ (l : List ℕ). results_by records l records l) under
    ∙ results_on records [] records nothing_above 0 outside None None refl refl refl
    (tree_kinds m is.message.tree).0 tt
    ∙ sym (results_are_listed m is.message.tree)
