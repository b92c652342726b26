-- Where the next record is after the records of a tree's parts, and that each of these is where it may.
use Rattle.std.proofs.Common.{◌≡◌, ◌≢◌, List, [], ◌∷◌, ◌++◌, None, Some, refl, sym, ◌∙◌, ap, subst}
use Rattle.std.specs.List.{AllByRecursion, flat_map}
use Rattle.lis_record_values.specs.declared.kinds.Kind.{Kind}
use Rattle.lis_record_values.specs.declared.kinds.Kind.TheVariants as kinds
use Rattle.lis_record_values.specs.Shape.{RecordContent}
use Rattle.lis_record_values.specs.declared.faults.Reason.TheVariants as reasons
use Rattle.lis_tree.specs.Nodes.{Branch, Annotated, OrderTree, PatientTree}
use Rattle.lis_tree.specs.Front.{IsFront, front_records}
use Rattle.lis_tree.specs.inside.Front.{front_level, group_level, groups_level, orders_level}
use Rattle.lis_tree.proofs.Flatten.{front_is, front_tree}
use Rattle.lis_tree.specs.declared.tree.Group.{Group}
use Rattle.lis_tree.specs.declared.tree.Group.TheVariants as groups
use Rattle.lis_tree.specs.Level.{Level, outside, in_header, in_patient, in_order, in_query, closed, next_level}
use Rattle.lis_tree.specs.Level.{level_after, misplaced, AllowedFrom, kinds_of}
use Rattle.lis_tree.specs.Tree.{MessageTree, annotated_records, order_records, patient_records, group_records, IsNote}
use Rattle.lis_tree.specs.Tree.{AreNotes, IsAnnotated, IsOrder, IsPatient, IsGroup, IsTree}

-- a run of kinds that are all allowed, and where it leads
pub record Leads (from : Level) (ks : List Kind) (to : Level) : Type 0 where
  pub allowed : AllowedFrom from ks
  pub arrives : level_after from ks ≡ to

abbrev LeadsBy : Level → List RecordContent → Level → Type 0
LeadsBy from rs to = Leads from (kinds_of rs) to

pub map_append : (xs ys : List RecordContent) → kinds_of (xs ++ ys) ≡ kinds_of xs ++ kinds_of ys
map_append [] ys = refl
map_append (x ∷ xs) ys = ap (λ ks. x.kind ∷ ks) (map_append xs ys)

pub level_append : (l : Level) (xs ys : List Kind) → level_after l (xs ++ ys) ≡ level_after (level_after l xs) ys
level_append l [] ys = refl
level_append l (x ∷ xs) ys = level_append (next_level l x) xs ys

pub allowed_append : (l : Level) (xs ys : List Kind) → AllowedFrom l xs → AllowedFrom (level_after l xs) ys
    → AllowedFrom l (xs ++ ys)
allowed_append l [] ys p q = q
allowed_append l (x ∷ xs) ys p q = (p.0, allowed_append (next_level l x) xs ys p.1 q)

pub allowed_front : (l : Level) (xs ys : List Kind) → AllowedFrom l (xs ++ ys) → AllowedFrom l xs
allowed_front l [] ys p = tt
allowed_front l (x ∷ xs) ys p = (p.0, allowed_front (next_level l x) xs ys p.1)

pub allowed_back : (l : Level) (xs ys : List Kind) → AllowedFrom l (xs ++ ys) → AllowedFrom (level_after l xs) ys
allowed_back l [] ys p = p
allowed_back l (x ∷ xs) ys p = allowed_back (next_level l x) xs ys p.1

leads_kinds : (a b c : Level) (xs ys : List Kind) → Leads a xs b → Leads b ys c → Leads a (xs ++ ys) c
leads_kinds a b c xs ys p q = record {
  allowed = allowed_append a xs ys p.allowed (subst (λ l. AllowedFrom l ys) (sym p.arrives) q.allowed);
  arrives = level_append a xs ys ∙ ap (λ l. level_after l ys) p.arrives ∙ q.arrives;
}

pub leads_then : (a b c : Level) (xs ys : List RecordContent) → LeadsBy a xs b → LeadsBy b ys c → LeadsBy a (xs ++ ys) c
leads_then a b c xs ys p q = subst (λ ks. Leads a ks c) (sym (map_append xs ys))
    (leads_kinds a b c (kinds_of xs) (kinds_of ys) p q)

-- inside a message a note is anywhere
pub data IsInside : Level → Type 0 where
  header : IsInside in_header
  patient : IsInside in_patient
  order : IsInside in_order
  query : IsInside in_query

note_allowed : (l : Level) (k : Kind) → IsInside l → IsNote k → (misplaced l k ≡ None) × (next_level l k ≡ l)
note_allowed outside k i n = elim i [ ]
note_allowed closed k i n = elim i [ ]
note_allowed l kinds.C i n = (refl, refl)
note_allowed l kinds.M i n = (refl, refl)
note_allowed l kinds.S i n = (refl, refl)
note_allowed l k i n = absurd n

pub notes_lead : (l : Level) (notes : List RecordContent) → IsInside l → AreNotes notes → LeadsBy l notes l
notes_lead l [] i n = record { allowed = tt; arrives = refl }
notes_lead l (x ∷ xs) i n =
    let s = note_allowed l x.kind i n.0 in
    let rest = notes_lead l xs i n.1 in
    record {
      allowed = (s.0, subst (λ m. AllowedFrom m (kinds_of xs)) (sym s.1) rest.allowed);
      arrives = ap (λ m. level_after m (kinds_of xs)) s.1 ∙ rest.arrives;
    }

head_leads : (l : Level) (head : RecordContent) (notes : List RecordContent) (k : Kind) (to : Level) → head.kind ≡ k
    → misplaced l k ≡ None → next_level l k ≡ to → IsInside to → AreNotes notes → LeadsBy l (head ∷ notes) to
head_leads l head notes k to is placed goes inside notes_are =
    let rest = notes_lead to notes inside notes_are in
    let goes' : next_level l head.kind ≡ to = ap (next_level l) is ∙ goes in
    record {
      allowed = (ap (misplaced l) is ∙ placed, subst (λ m. AllowedFrom m (kinds_of notes)) (sym goes') rest.allowed);
      arrives = ap (λ m. level_after m (kinds_of notes)) goes' ∙ rest.arrives;
    }

pub annotated_leads : (l : Level) (n : Annotated) (k : Kind) (to : Level) → IsAnnotated k n → misplaced l k ≡ None
    → next_level l k ≡ to → IsInside to → LeadsBy l (annotated_records n) to
annotated_leads l n k to is placed goes inside = head_leads l n.head n.notes k to is.head placed goes inside is.notes

results_lead : (rs : List Annotated) → AllByRecursion (IsAnnotated kinds.R) rs
    → LeadsBy in_order (flat_map annotated_records rs) in_order
results_lead [] a = record { allowed = tt; arrives = refl }
results_lead (r ∷ rs) a =
    leads_then in_order in_order in_order (annotated_records r) (flat_map annotated_records rs)
    (annotated_leads in_order r kinds.R in_order a.0 refl refl order) (results_lead rs a.1)

pub order_leads : (l : Level) (o : OrderTree) → IsOrder o → misplaced l kinds.O ≡ None
    → LeadsBy l (order_records o) in_order
order_leads l o is placed =
    leads_then l in_order in_order (annotated_records o.top) (flat_map annotated_records o.below)
    (annotated_leads l o.top kinds.O in_order is.top placed refl order) (results_lead o.below is.below)

-- right under a patient, or after one of its orders
pub data IsUnderPatient : Level → Type 0 where
  first : IsUnderPatient in_patient
  later : IsUnderPatient in_order

takes_order : (l : Level) → IsUnderPatient l → misplaced l kinds.O ≡ None
takes_order in_patient u = refl
takes_order in_order u = refl
takes_order l u = elim u [ ]

more_orders : (os : List OrderTree) → AllByRecursion IsOrder os → LeadsBy in_order (flat_map order_records os) in_order
more_orders [] a = record { allowed = tt; arrives = refl }
more_orders (o ∷ os) a =
    leads_then in_order in_order in_order (order_records o) (flat_map order_records os)
    (order_leads in_order o a.0 refl) (more_orders os a.1)

orders_lead : (l : Level) (os : List OrderTree) → IsUnderPatient l → AllByRecursion IsOrder os
    → IsUnderPatient (orders_level l os) × LeadsBy l (flat_map order_records os) (orders_level l os)
orders_lead l [] u a = (u, record { allowed = tt; arrives = refl })
orders_lead l (o ∷ os) u a = (
  later,
  leads_then l in_order in_order (order_records o) (flat_map order_records os) (order_leads l o a.0 (takes_order l u))
      (more_orders os a.1),
)

pub patient_leads : (l : Level) (p : PatientTree) → IsPatient p → misplaced l kinds.P ≡ None
    → IsUnderPatient (orders_level in_patient p.below)
    × LeadsBy l (patient_records p) (orders_level in_patient p.below)
patient_leads l p is placed =
    let rest = orders_lead in_patient p.below first is.below in (
      rest.0,
      leads_then l in_patient (orders_level in_patient p.below) (annotated_records p.top)
          (flat_map order_records p.below) (annotated_leads l p.top kinds.P in_patient is.top placed refl patient)
          rest.1,
    )

inside_under : (l : Level) → IsUnderPatient l → IsInside l
inside_under in_patient u = patient
inside_under in_order u = order
inside_under l u = elim u [ ]

-- inside a message a patient, a query and the closing record are anywhere
pub inside_takes : (l : Level) → IsInside l → (misplaced l kinds.P ≡ None) × (misplaced l kinds.Q ≡ None)
    × (misplaced l kinds.L ≡ None)
inside_takes outside i = elim i [ ]
inside_takes closed i = elim i [ ]
inside_takes l i = (refl, refl, refl)

group_leads : (l : Level) (g : Group) → IsInside l → IsGroup g
    → IsInside (group_level g) × LeadsBy l (group_records g) (group_level g)
group_leads l (groups.Patient p) i is =
    let r = patient_leads l p is (inside_takes l i).0 in
    (inside_under (orders_level in_patient p.below) r.0, r.1)
group_leads l (groups.Query q) i is = (query, annotated_leads l q kinds.Q in_query is (inside_takes l i).1 refl query)

pub groups_lead : (l : Level) (gs : List Group) → IsInside l → AllByRecursion IsGroup gs
    → IsInside (groups_level l gs) × LeadsBy l (flat_map group_records gs) (groups_level l gs)
groups_lead l [] i a = (i, record { allowed = tt; arrives = refl })
groups_lead l (g ∷ gs) i a =
    let here = group_leads l g i a.0 in
    let to = groups_level (group_level g) gs in
    let rest = groups_lead (group_level g) gs here.0 a.1 in
    (rest.0, leads_then l (group_level g) to (group_records g) (flat_map group_records gs) here.1 rest.1)

-- the records of a message that isn't closed lead to where the next one will be
pub front_leads : (f : Branch Group) → IsFront f
    → IsInside (front_level f) × LeadsBy outside (front_records f) (front_level f)
front_leads f is =
    let rest = groups_lead in_header f.below header is.below in (
      rest.0,
      leads_then outside in_header (front_level f) (annotated_records f.top) (flat_map group_records f.below)
          (annotated_leads outside f.top kinds.H in_header is.top refl refl header) rest.1,
    )

-- so what is misplaced by the tree is misplaced by the records
pub front_misplaced : (f : Branch Group) → IsFront f → (records : List RecordContent) → front_records f ≡ records
    → (k : Kind) → misplaced (front_level f) k ≡ misplaced (level_after outside (kinds_of records)) k
front_misplaced f is records same k =
    ap (λ l. misplaced l k) (sym (front_leads f is).1.arrives
    ∙ ap (λ (rs : List RecordContent). level_after outside (kinds_of rs)) same)

-- the records of a whole message are allowed, and lead to its end
pub tree_leads : (m : MessageTree) → IsTree m → (to : Level) × IsInside to
    × LeadsBy outside (front_records (front_tree m)) to
tree_leads m is =
    let leads = front_leads (front_tree m) (front_is m is) in (front_level (front_tree m), leads.0, leads.1)

-- ---- one record more

-- a record that doesn't close a message leaves it open
pub next_unclosed : (l : Level) (k : Kind) → l ≢ closed → k ≢ kinds.L → next_level l k ≢ closed
next_unclosed l kinds.R u o e = u e
next_unclosed l kinds.C u o e = u e
next_unclosed l kinds.M u o e = u e
next_unclosed l kinds.S u o e = u e
next_unclosed l kinds.L u o e = o refl
next_unclosed l k u o e = cc

pub level_more : (rs : List RecordContent) (r : RecordContent)
    → level_after outside (kinds_of (rs ++ r ∷ [])) ≡ next_level (level_after outside (kinds_of rs)) r.kind
level_more rs r = ap (level_after outside) (map_append rs (r ∷ [])) ∙ level_append outside (kinds_of rs) (r.kind ∷ [])

pub allowed_more : (rs : List RecordContent) (r : RecordContent) → AllowedFrom outside (kinds_of rs)
    → misplaced (level_after outside (kinds_of rs)) r.kind ≡ None → AllowedFrom outside (kinds_of (rs ++ r ∷ []))
allowed_more rs r p q = subst (AllowedFrom outside) (sym (map_append rs (r ∷ [])))
    (allowed_append outside (kinds_of rs) (r.kind ∷ []) p (q, tt))

-- ---- where a record of a kind may be

-- after its end a message takes nothing but a header, which is one too many
pub nothing_closed : (k : Kind) → misplaced closed k ≡ None → ⊥
nothing_closed kinds.H e = cc
nothing_closed k e = cc

pub outside_refused : (k : Kind) → k ≢ kinds.H → misplaced outside k ≡ Some reasons.NotHeader
outside_refused kinds.H h = absurd (h refl)
outside_refused k h = refl

pub header_first : (k : Kind) → misplaced outside k ≡ None → k ≡ kinds.H
header_first kinds.H e = refl
header_first k e = absurd cc

-- the first record of a run that doesn't end a message doesn't end it
pub unclosed_first : (l : Level) (k : Kind) (ks : List Kind) → AllowedFrom l (k ∷ ks) → level_after l (k ∷ ks) ≢ closed
    → k ≢ kinds.L
unclosed_first l k [] p u e = u (ap (next_level l) e)
unclosed_first l k (j ∷ ks) p u e =
    nothing_closed j (subst (λ m. misplaced m j ≡ None) (ap (next_level l) e) p.1.0)

-- inside a message there is no header
pub other_kind : (l : Level) (k : Kind) → l ≢ outside → misplaced l k ≡ None → k ≢ kinds.H
other_kind outside k o p e = o refl
other_kind in_header k o p e = let h : misplaced in_header kinds.H ≡ None = ap (misplaced in_header) (sym e) ∙ p in cc
other_kind in_patient k o p e = let h : misplaced in_patient kinds.H ≡ None = ap (misplaced in_patient) (sym e) ∙ p in
    cc
other_kind in_order k o p e = let h : misplaced in_order kinds.H ≡ None = ap (misplaced in_order) (sym e) ∙ p in cc
other_kind in_query k o p e = let h : misplaced in_query kinds.H ≡ None = ap (misplaced in_query) (sym e) ∙ p in cc
other_kind closed k o p e = nothing_closed k p

pub next_begun : (l : Level) (k : Kind) → l ≢ outside → next_level l k ≢ outside
next_begun l kinds.R o e = o e
next_begun l kinds.C o e = o e
next_begun l kinds.M o e = o e
next_begun l kinds.S o e = o e
next_begun l k o e = cc
