-- Records that are where they may, and one that closes them, are a message.
use Rattle.std.proofs.Common.{◌≡◌, ◌≢◌, List, [], ◌∷◌, ◌++◌, None, refl, sym, ◌∙◌, ap, subst}
use Rattle.std.proofs.lemmas.List.{append-nil}
use Rattle.std.specs.Prelude.{⊤}
use Rattle.std.specs.List.{AllByRecursion, flat_map}
use Rattle.lis_record_values.specs.declared.kinds.Kind.{Kind}
use Rattle.lis_record_values.specs.declared.kinds.Kind.TheVariants as kinds
use Rattle.lis_record_values.specs.Delimiters.{DelimiterBytes, IsDelimiters}
use Rattle.lis_record_values.specs.Shape.{IsRecordShape, RecordContent}
use Rattle.lis_tree.specs.declared.tree.Group.{Group}
use Rattle.lis_tree.specs.declared.tree.Group.TheVariants as groups
use Rattle.lis_tree.specs.Level.{Level, AllowedFrom, closed, in_header, in_order, in_patient, in_query, kinds_of}
use Rattle.lis_tree.specs.Level.{level_after, misplaced, next_level, outside}
use Rattle.lis_tree.specs.Nodes.{Annotated, OrderTree}
use Rattle.lis_tree.specs.Tree.{AreNotes, IsGroup, IsNote, IsAnnotated, IsOrder, IsTree, MessageTree, flatten}
use Rattle.lis_tree.specs.Tree.{group_records, annotated_records, order_records}

-- in a message that isn't closed
abbrev IsInside : Level → Type 0
IsInside outside = ⊥
IsInside closed = ⊥
IsInside level = ⊤

abbrev LacksResults : Level → List Annotated → Type 0
LacksResults in_order results = ⊤
LacksResults level results = results ≡ []

abbrev LacksOrders : Level → List OrderTree → Type 0
LacksOrders in_order orders = ⊤
LacksOrders in_patient orders = ⊤
LacksOrders level orders = orders ≡ []

no_results : (level : Level) → LacksResults level []
no_results in_order = tt
no_results level = refl

no_orders : (level : Level) → LacksOrders level []
no_orders in_patient = tt
no_orders in_order = tt
no_orders level = refl

-- The records from this place on: notes, results of the open order, orders of the open patient, and groups.
record IsParsed (level : Level) (rs : List RecordContent) : Type 0 where
  notes : List RecordContent
  results : List Annotated
  orders : List OrderTree
  groups : List Group
  whole : rs ≡ notes ++ flat_map annotated_records results ++ flat_map order_records orders ++ flat_map group_records
      groups
  are_notes : AreNotes notes
  are_results : AllByRecursion (IsAnnotated kinds.R) results
  are_orders : AllByRecursion IsOrder orders
  are_groups : AllByRecursion IsGroup groups
  lacks_results : LacksResults level results
  lacks_orders : LacksOrders level orders

note_parsed : (level : Level) (r : RecordContent) (rs : List RecordContent) → IsNote r.kind → IsParsed level rs
    → IsParsed level (r ∷ rs)
note_parsed level r rs note p = record {
  notes = r ∷ p.notes;
  results = p.results;
  orders = p.orders;
  groups = p.groups;
  whole = ap (λ (l : List RecordContent). r ∷ l) p.whole;
  are_notes = (note, p.are_notes);
  are_results = p.are_results;
  are_orders = p.are_orders;
  are_groups = p.are_groups;
  lacks_results = p.lacks_results;
  lacks_orders = p.lacks_orders;
}

result_parsed : (r : RecordContent) (rs : List RecordContent) → r.kind ≡ kinds.R → IsParsed in_order rs
    → IsParsed in_order (r ∷ rs)
result_parsed r rs kind p = record {
  notes = [];
  results = record { head = r; notes = p.notes } ∷ p.results;
  orders = p.orders;
  groups = p.groups;
  whole = ap (λ (l : List RecordContent). r ∷ l) p.whole;
  are_notes = tt;
  are_results = (record { head = kind; notes = p.are_notes }, p.are_results);
  are_orders = p.are_orders;
  are_groups = p.are_groups;
  lacks_results = tt;
  lacks_orders = tt;
}

order_parsed : (level : Level) (r : RecordContent) (rs : List RecordContent) → r.kind ≡ kinds.O
    → ((orders : List OrderTree) → LacksOrders level orders) → IsParsed in_order rs → IsParsed level (r ∷ rs)
order_parsed level r rs kind has p = record {
  notes = [];
  results = [];
  orders = record { top = record { head = r; notes = p.notes }; below = p.results } ∷ p.orders;
  groups = p.groups;
  whole = ap (λ (l : List RecordContent). r ∷ l) p.whole;
  are_notes = tt;
  are_results = tt;
  are_orders = (record { top = record { head = kind; notes = p.are_notes }; below = p.are_results }, p.are_orders);
  are_groups = p.are_groups;
  lacks_results = no_results level;
  lacks_orders = has _;
}

patient_parsed : (level : Level) (r : RecordContent) (rs : List RecordContent) → r.kind ≡ kinds.P
    → IsParsed in_patient rs → IsParsed level (r ∷ rs)
patient_parsed level r rs kind p = record {
  notes = [];
  results = [];
  orders = [];
  groups = groups.Patient (record { top = record { head = r; notes = p.notes }; below = p.orders }) ∷ p.groups;
  whole =
      ap (λ (l : List RecordContent). r ∷ l) (p.whole
      ∙ ap (λ (results : List Annotated). p.notes ++ flat_map annotated_records results ++ flat_map order_records
      p.orders
      ++ flat_map group_records p.groups) p.lacks_results
      ∙ ap (λ (l : List RecordContent). l ++ flat_map order_records p.orders ++ flat_map group_records p.groups)
      (append-nil p.notes));
  are_notes = tt;
  are_results = tt;
  are_orders = tt;
  are_groups = (record { top = record { head = kind; notes = p.are_notes }; below = p.are_orders }, p.are_groups);
  lacks_results = no_results level;
  lacks_orders = no_orders level;
}

query_parsed : (level : Level) (r : RecordContent) (rs : List RecordContent) → r.kind ≡ kinds.Q → IsParsed in_query rs
    → IsParsed level (r ∷ rs)
query_parsed level r rs kind p = record {
  notes = [];
  results = [];
  orders = [];
  groups = groups.Query (record { head = r; notes = p.notes }) ∷ p.groups;
  whole =
      ap (λ (l : List RecordContent). r ∷ l) (p.whole
      ∙ ap (λ (results : List Annotated). p.notes ++ flat_map annotated_records results ++ flat_map order_records
      p.orders
      ++ flat_map group_records p.groups) p.lacks_results
      ∙ ap (λ (orders : List OrderTree). p.notes ++ [] ++ flat_map order_records orders
      ++ flat_map group_records p.groups) p.lacks_orders
      ∙ ap (λ (l : List RecordContent). l ++ [] ++ flat_map group_records p.groups) (append-nil p.notes)
      ∙ ap (λ (l : List RecordContent). l ++ flat_map group_records p.groups) (append-nil p.notes));
  are_notes = tt;
  are_results = tt;
  are_orders = tt;
  are_groups = (record { head = kind; notes = p.are_notes }, p.are_groups);
  lacks_results = no_results level;
  lacks_orders = no_orders level;
}

-- an order is under a patient or an order
order_placed : (level : Level) → IsInside level → misplaced level kinds.O ≡ None → (orders : List OrderTree)
    → LacksOrders level orders
order_placed outside inside may orders = absurd inside
order_placed closed inside may orders = absurd inside
order_placed in_header inside may orders = cc
order_placed in_query inside may orders = cc
order_placed in_patient inside may orders = tt
order_placed in_order inside may orders = tt

result_placed : (level : Level) → IsInside level → misplaced level kinds.R ≡ None → level ≡ in_order
result_placed outside inside may = absurd inside
result_placed closed inside may = absurd inside
result_placed in_order inside may = refl
result_placed level inside may = cc

header_placed : (level : Level) → IsInside level → misplaced level kinds.H ≡ None → ⊥
header_placed outside inside may = inside
header_placed closed inside may = inside
header_placed level inside may = cc

one_more : (level : Level) (k : Kind) (r : RecordContent) (rs : List RecordContent) → r.kind ≡ k → IsInside level
    → misplaced level k ≡ None → IsInside (next_level level k)
    → IsParsed (next_level level k) rs → IsParsed level (r ∷ rs)
one_more level kinds.H r rs is inside may next p = absurd (header_placed level inside may)
one_more level kinds.P r rs is inside may next p = patient_parsed level r rs is p
one_more level kinds.O r rs is inside may next p = order_parsed level r rs is (order_placed level inside may) p
one_more level kinds.R r rs is inside may next p =
    let at = result_placed level inside may in
    subst (λ (l : Level). IsParsed l (r ∷ rs)) (sym at)
    (result_parsed r rs is (subst (λ (l : Level). IsParsed l rs) at p))
one_more level kinds.Q r rs is inside may next p = query_parsed level r rs is p
one_more level kinds.L r rs is inside may next p = absurd next
one_more level k r rs is inside may next p = note_parsed level r rs (subst IsNote (sym is) tt) p

-- nothing is after the record that closes a message
closed_over : (ks : List Kind) → AllowedFrom closed ks → level_after closed ks ≢ closed → ⊥
closed_over [] allowed open' = open' refl
closed_over (kinds.H ∷ ks) allowed open' = let e = allowed.0 in cc
closed_over ks allowed open' = let e = allowed.0 in cc

stays_inside : (level : Level) (k : Kind) (ks : List Kind) → IsInside level → AllowedFrom (next_level level k) ks
    → level_after (next_level level k) ks ≢ closed → IsInside (next_level level k)
stays_inside level kinds.R ks inside allowed open' = inside
stays_inside level kinds.C ks inside allowed open' = inside
stays_inside level kinds.M ks inside allowed open' = inside
stays_inside level kinds.S ks inside allowed open' = inside
stays_inside level kinds.L ks inside allowed open' = closed_over ks allowed open'
stays_inside level k ks inside allowed open' = tt

parsed : (level : Level) (rs : List RecordContent) → IsInside level → AllowedFrom level (kinds_of rs)
    → level_after level (kinds_of rs) ≢ closed → IsParsed level rs
parsed level [] inside allowed open' = record {
  notes = [];
  results = [];
  orders = [];
  groups = [];
  whole = refl;
  are_notes = tt;
  are_results = tt;
  are_orders = tt;
  are_groups = tt;
  lacks_results = no_results level;
  lacks_orders = no_orders level;
}
parsed level (r ∷ rs) inside allowed open' =
    let next = stays_inside level r.kind (kinds_of rs) inside allowed.1 open' in
    one_more level r.kind r rs refl inside allowed.0 next (parsed (next_level level r.kind) rs next allowed.1 open')

first_header : (k : Kind) → misplaced outside k ≡ None → k ≡ kinds.H
first_header kinds.H e = refl
first_header k e = cc

all_shapes : (xs : List RecordContent) (r : RecordContent) → AllByRecursion IsRecordShape xs → IsRecordShape r
    → AllByRecursion IsRecordShape (xs ++ r ∷ [])
all_shapes [] r h last = (last, tt)
all_shapes (x ∷ xs) r h last = (h.0, all_shapes xs r h.1 last)

-- the message of these records
pub record IsTreeOf (d : DelimiterBytes) (records : List RecordContent) (message : MessageTree) : Type 0 where
  pub tree : IsTree message
  pub delimiters : message.delimiters ≡ d
  pub records_are : flatten message ≡ records

pub tree_of :
    (d : DelimiterBytes) → IsDelimiters d → (rs : List RecordContent) (closing : RecordContent) → rs ≢ []
    → AllowedFrom outside (kinds_of rs)
    → level_after outside (kinds_of rs) ≢ closed → closing.kind ≡ kinds.L → AllByRecursion IsRecordShape rs
    → IsRecordShape closing
    → (message : MessageTree) × IsTreeOf d (rs ++ closing ∷ []) message
tree_of d good [] closing some allowed open' kind shapes last = absurd (some refl)
tree_of d good (r ∷ rs) closing some allowed open' kind shapes last =
    let header : r.kind ≡ kinds.H = first_header r.kind allowed.0 in
    let level : next_level outside r.kind ≡ in_header = ap (next_level outside) header in
    let p = parsed in_header rs tt (subst (λ (l : Level). AllowedFrom l (kinds_of rs)) level allowed.1)
    (subst (λ (l : Level). level_after l (kinds_of rs) ≢ closed) level open') in
    let whole : rs ≡ p.notes ++ flat_map group_records p.groups =
    p.whole
    ∙ ap (λ (results : List Annotated). p.notes ++ flat_map annotated_records results ++ flat_map order_records p.orders
    ++ flat_map group_records p.groups) p.lacks_results
    ∙ ap (λ (orders : List OrderTree). p.notes ++ [] ++ flat_map order_records orders
    ++ flat_map group_records p.groups) p.lacks_orders
    ∙ ap (λ (l : List RecordContent). l ++ [] ++ flat_map group_records p.groups) (append-nil p.notes)
    ∙ ap (λ (l : List RecordContent). l ++ flat_map group_records p.groups) (append-nil p.notes) in
    let same : (r ∷ p.notes) ++ flat_map group_records p.groups ++ closing ∷ [] ≡ (r ∷ rs) ++ closing ∷ [] =
    ap (λ (l : List RecordContent). (r ∷ l) ++ closing ∷ []) (sym whole) in (
      record { delimiters = d; header = r; notes = p.notes; groups = p.groups; closing = closing },
      record {
        tree = record {
          delimiters = good;
          header = header;
          notes = p.are_notes;
          groups = p.are_groups;
          closing = kind;
          records = subst (AllByRecursion IsRecordShape) (sym same) (all_shapes (r ∷ rs) closing shapes last);
        };
        delimiters = refl;
        records_are = same;
      },
    )
