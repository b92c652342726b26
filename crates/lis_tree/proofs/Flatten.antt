-- A tree is determined by its records.
use Rattle.std.proofs.Common.{◌≡◌, Bool, true, false, List, [], ◌∷◌, ◌++◌, refl, sym, ◌∙◌, ap, subst}
use Rattle.std.specs.List.{AllByRecursion, flat_map}
use Rattle.lis_record_values.specs.declared.kinds.Kind.{Kind}
use Rattle.lis_record_values.specs.declared.kinds.Kind.TheVariants as kinds
use Rattle.lis_record_values.specs.Shape.{RecordContent}
use Rattle.lis_tree.specs.Nodes.{Branch, Annotated, OrderTree, PatientTree}
use Rattle.lis_tree.specs.declared.tree.Group.{Group}
use Rattle.lis_tree.specs.declared.tree.Group.TheVariants as groups
use Rattle.lis_tree.specs.Tree.{MessageTree, annotated_records, order_records, patient_records, group_records, flatten}
use Rattle.lis_tree.specs.Tree.{IsBranch, IsNote, AreNotes, IsAnnotated, IsOrder, IsPatient, IsGroup, IsTree}
use Rattle.lis_tree.specs.Tree.{branch_records}
use Rattle.lis_tree.specs.Front.{message_tree}

-- each record's kind passes a test
abbrev Pass : (Kind → Bool) → List RecordContent → Type 0
Pass p rs = AllByRecursion (λ r. p r.kind ≡ true) rs

-- the list is empty, or its first record's kind fails the test
abbrev HeadFails : (Kind → Bool) → List RecordContent → Type 0
HeadFails p [] = Unit {0}
HeadFails p (r ∷ rs) = p r.kind ≡ false

not_both : (b : Bool) → b ≡ true → b ≡ false → ⊥
not_both b t f = let e : true ≡ false = sym t ∙ f in cc

-- two lists that begin with records that pass, up to one that fails, begin alike
span_one : (p : Kind → Bool) (xs ys r s : List RecordContent) → Pass p xs → Pass p ys → HeadFails p r → HeadFails p s
    → xs ++ r ≡ ys ++ s → (xs ≡ ys) × (r ≡ s)
span_one p [] [] r s ax ay sr ss e = (refl, e)
span_one p [] (y ∷ ys) [] s ax ay sr ss e = absurd cc
span_one p [] (y ∷ ys) (a ∷ r) s ax ay sr ss e =
    let same : a ≡ y = cc in absurd (not_both (p y.kind) ay.0 (ap (λ (x : RecordContent). p x.kind) (sym same) ∙ sr))
span_one p (x ∷ xs) [] r [] ax ay sr ss e = absurd cc
span_one p (x ∷ xs) [] r (b ∷ s) ax ay sr ss e =
    let same : x ≡ b = cc in absurd (not_both (p x.kind) ax.0 (ap (λ (x : RecordContent). p x.kind) same ∙ ss))
span_one p (x ∷ xs) (y ∷ ys) r s ax ay sr ss e =
    let heads : x ≡ y = cc in
    let tails : xs ++ r ≡ ys ++ s = cc in
    let both = span_one p xs ys r s ax.1 ay.1 sr ss tails in
    (let one : xs ≡ ys = both.0 in cc, both.1)

-- a piece: a record whose kind fails the test, and then records that pass
record IsPiece (p : Kind → Bool) (records : List RecordContent) : Type 0 where
  head : RecordContent
  tail : List RecordContent
  whole : records ≡ head ∷ tail
  fails : p head.kind ≡ false
  passes : Pass p tail

module _ {X : Type 0} (p : Kind → Bool) (f : X → List RecordContent) (Is : X → Type 0)
    (piece : (x : X) → Is x → IsPiece p (f x)) (one : (x y : X) → Is x → Is y → f x ≡ f y → x ≡ y) where
  pieces_stop : (xs : List X) → AllByRecursion Is xs → HeadFails p (flat_map f xs)
  pieces_stop [] a = tt
  pieces_stop (x ∷ xs) a =
      let h = piece x a.0 in subst (λ l. HeadFails p (l ++ flat_map f xs)) (sym h.whole) h.fails

  starts : (x : X) (rest : List RecordContent) (is : Is x)
      → f x ++ rest ≡ (piece x is).head ∷ ((piece x is).tail ++ rest)
  starts x rest is = ap (λ l. l ++ rest) (piece x is).whole

  -- the same records make the same pieces
  pieces_one : (xs ys : List X) → AllByRecursion Is xs → AllByRecursion Is ys → flat_map f xs ≡ flat_map f ys → xs ≡ ys
  pieces_one [] [] ax ay e = refl
  pieces_one [] (y ∷ ys) ax ay e = let s = starts y (flat_map f ys) ay.0 in absurd cc
  pieces_one (x ∷ xs) [] ax ay e = let s = starts x (flat_map f xs) ax.0 in absurd cc
  pieces_one (x ∷ xs) (y ∷ ys) ax ay e =
      let a = piece x ax.0 in
      let b = piece y ay.0 in
      let whole : a.head ∷ (a.tail ++ flat_map f xs) ≡ b.head ∷ (b.tail ++ flat_map f ys) =
      sym (starts x (flat_map f xs) ax.0) ∙ e ∙ starts y (flat_map f ys) ay.0 in
      let heads : a.head ≡ b.head = cc in
      let following : a.tail ++ flat_map f xs ≡ b.tail ++ flat_map f ys = cc in
      let both = span_one p a.tail b.tail (flat_map f xs) (flat_map f ys) a.passes b.passes (pieces_stop xs ax.1)
      (pieces_stop ys ay.1) following in
      let tails : a.tail ≡ b.tail = both.0 in
      let same : f x ≡ f y = a.whole ∙ (let w : a.head ∷ a.tail ≡ b.head ∷ b.tail = cc in w) ∙ sym b.whole in
      let first : x ≡ y = one x y ax.0 ay.0 same in
      let others : xs ≡ ys = pieces_one xs ys ax.1 ay.1 both.1 in
      cc

-- the kinds that are inside a result or a query, an order, a group
abbrev in_annotated : Kind → Bool
in_annotated kinds.C = true
in_annotated kinds.M = true
in_annotated kinds.S = true
in_annotated _ = false

abbrev below_order : Kind → Bool
below_order kinds.R = true
below_order k = in_annotated k

abbrev below_group : Kind → Bool
below_group kinds.O = true
below_group k = below_order k

-- a note passes
abbrev TakesNotes : (Kind → Bool) → Type 0
TakesNotes p = (k : Kind) → IsNote k → p k ≡ true

annotated_takes : TakesNotes in_annotated
annotated_takes kinds.C n = refl
annotated_takes kinds.M n = refl
annotated_takes kinds.S n = refl
annotated_takes k n = absurd n

order_takes : TakesNotes below_order
order_takes kinds.R n = refl
order_takes k n = annotated_takes k n

group_takes : TakesNotes below_group
group_takes kinds.O n = refl
group_takes k n = order_takes k n

notes_pass : (p : Kind → Bool) → TakesNotes p → (rs : List RecordContent) → AreNotes rs → Pass p rs
notes_pass p takes [] a = tt
notes_pass p takes (r ∷ rs) a = (takes r.kind a.0, notes_pass p takes rs a.1)

pass_append : (p : Kind → Bool) (xs ys : List RecordContent) → Pass p xs → Pass p ys → Pass p (xs ++ ys)
pass_append p [] ys a b = b
pass_append p (x ∷ xs) ys a b = (a.0, pass_append p xs ys a.1 b)

kind_as : (p : Kind → Bool) (r : RecordContent) (k : Kind) (b : Bool) → r.kind ≡ k → p k ≡ b → p r.kind ≡ b
kind_as p r k b e h = ap p e ∙ h

-- where each node's records pass, all do
all_pass : {X : Type 0} (p : Kind → Bool) (f : X → List RecordContent) (Is : X → Type 0)
    → ((x : X) → Is x → Pass p (f x)) → (xs : List X) → AllByRecursion Is xs → Pass p (flat_map f xs)
all_pass p f Is passes [] a = tt
all_pass p f Is passes (x ∷ xs) a =
    pass_append p (f x) (flat_map f xs) (passes x a.0) (all_pass p f Is passes xs a.1)

-- ---- results

annotated_pass : (p : Kind → Bool) → TakesNotes p → (k : Kind) → p k ≡ true → (n : Annotated) → IsAnnotated k n
    → Pass p (annotated_records n)
annotated_pass p takes k passes n is = (kind_as p n.head k true is.head passes, notes_pass p takes n.notes is.notes)

annotated_piece : (p : Kind → Bool) → TakesNotes p → (k : Kind) → p k ≡ false → (n : Annotated) → IsAnnotated k n
    → IsPiece p (annotated_records n)
annotated_piece p takes k fails n is = record {
  head = n.head;
  tail = n.notes;
  whole = refl;
  fails = kind_as p n.head k false is.head fails;
  passes = notes_pass p takes n.notes is.notes;
}

annotated_one : (k : Kind) (a b : Annotated) → IsAnnotated k a → IsAnnotated k b → annotated_records a
    ≡ annotated_records b → a ≡ b
annotated_one k a b ia ib e =
    let heads : a.head ≡ b.head = cc in
    let notes : a.notes ≡ b.notes = cc in
    let make : RecordContent → List RecordContent → Annotated = λ h n. record { head = h; notes = n } in
    ap (λ h. make h a.notes) heads ∙ ap (make b.head) notes

results_one : (xs ys : List Annotated) → AllByRecursion (IsAnnotated kinds.R) xs → AllByRecursion (IsAnnotated kinds.R)
    ys
    → flat_map annotated_records xs ≡ flat_map annotated_records ys → xs ≡ ys
results_one = pieces_one in_annotated annotated_records (IsAnnotated kinds.R)
    (annotated_piece in_annotated annotated_takes kinds.R refl)
    (annotated_one kinds.R)

results_stop : (xs : List Annotated) → AllByRecursion (IsAnnotated kinds.R) xs → HeadFails in_annotated
    (flat_map annotated_records xs)
results_stop = pieces_stop in_annotated annotated_records (IsAnnotated kinds.R)
    (annotated_piece in_annotated annotated_takes kinds.R refl)
    (annotated_one kinds.R)

results_pass : (p : Kind → Bool) → TakesNotes p → p kinds.R ≡ true → (xs : List Annotated)
    → AllByRecursion (IsAnnotated kinds.R) xs → Pass p (flat_map annotated_records xs)
results_pass p takes passes = all_pass p annotated_records (IsAnnotated kinds.R) (annotated_pass p takes kinds.R passes)

-- ---- branches

module _ {X : Type 0} (f : X → List RecordContent) (Is : X → Type 0) (k : Kind) where
  branch_piece : (p : Kind → Bool) → TakesNotes p → p k ≡ false
      → ((xs : List X) → AllByRecursion Is xs → Pass p (flat_map f xs)) → (b : Branch X) → IsBranch k Is b
      → IsPiece p (branch_records f b)
  branch_piece p takes fails below b is = record {
    head = b.top.head;
    tail = b.top.notes ++ flat_map f b.below;
    whole = refl;
    fails = kind_as p b.top.head k false is.top.head fails;
    passes = pass_append p b.top.notes (flat_map f b.below) (notes_pass p takes b.top.notes is.top.notes)
        (below b.below is.below);
  }

  branch_one : ((xs : List X) → AllByRecursion Is xs → HeadFails in_annotated (flat_map f xs))
      → ((xs ys : List X) → AllByRecursion Is xs → AllByRecursion Is ys → flat_map f xs ≡ flat_map f ys → xs ≡ ys)
      → (a b : Branch X) → IsBranch k Is a → IsBranch k Is b → branch_records f a ≡ branch_records f b → a ≡ b
  branch_one stop one a b ia ib e =
      let heads : a.top.head ≡ b.top.head = cc in
      let following : a.top.notes ++ flat_map f a.below ≡ b.top.notes ++ flat_map f b.below = cc in
      let both = span_one in_annotated a.top.notes b.top.notes (flat_map f a.below) (flat_map f b.below)
      (notes_pass in_annotated annotated_takes a.top.notes ia.top.notes)
      (notes_pass in_annotated annotated_takes b.top.notes ib.top.notes) (stop a.below ia.below) (stop b.below ib.below)
      following in
      let below = one a.below b.below ia.below ib.below both.1 in
      let make : RecordContent → List RecordContent → List X → Branch X =
      λ h n l. record { top = record { head = h; notes = n }; below = l } in
      ap (λ h. make h a.top.notes a.below) heads ∙ ap (λ n. make b.top.head n a.below) both.0
      ∙ ap (make b.top.head b.top.notes) below

-- ---- orders

order_piece : (o : OrderTree) → IsOrder o → IsPiece below_order (order_records o)
order_piece = branch_piece annotated_records (IsAnnotated kinds.R) kinds.O below_order order_takes refl
    (results_pass below_order order_takes refl)

order_one : (a b : OrderTree) → IsOrder a → IsOrder b → order_records a ≡ order_records b → a ≡ b
order_one = branch_one annotated_records (IsAnnotated kinds.R) kinds.O results_stop results_one

orders_one : (xs ys : List OrderTree) → AllByRecursion IsOrder xs → AllByRecursion IsOrder ys
    → flat_map order_records xs ≡ flat_map order_records ys → xs ≡ ys
orders_one = pieces_one below_order order_records IsOrder order_piece order_one

orders_stop : (xs : List OrderTree) → AllByRecursion IsOrder xs → HeadFails in_annotated (flat_map order_records xs)
orders_stop [] a = tt
orders_stop (x ∷ xs) a = kind_as in_annotated x.top.head kinds.O false a.0.top.head refl

orders_pass : (xs : List OrderTree) → AllByRecursion IsOrder xs → Pass below_group (flat_map order_records xs)
orders_pass = all_pass below_group order_records IsOrder (λ o is. pass_append below_group (annotated_records o.top)
    (flat_map annotated_records o.below) (annotated_pass below_group group_takes kinds.O refl o.top is.top)
    (results_pass below_group group_takes refl o.below is.below))

-- ---- groups

group_piece : (g : Group) → IsGroup g → IsPiece below_group (group_records g)
group_piece (groups.Patient p) is =
    branch_piece order_records IsOrder kinds.P below_group group_takes refl orders_pass p is
group_piece (groups.Query q) is = annotated_piece below_group group_takes kinds.Q refl q is

patient_one : (a b : PatientTree) → IsPatient a → IsPatient b → patient_records a ≡ patient_records b → a ≡ b
patient_one = branch_one order_records IsOrder kinds.P orders_stop orders_one

different_kinds : (a b : RecordContent) → a ≡ b → a.kind ≡ kinds.P → b.kind ≡ kinds.Q → ⊥
different_kinds a b e p q = let k : kinds.P ≡ kinds.Q = sym p ∙ ap (λ (r : RecordContent). r.kind) e ∙ q in cc

group_one : (a b : Group) → IsGroup a → IsGroup b → group_records a ≡ group_records b → a ≡ b
group_one (groups.Patient p) (groups.Patient q) ia ib e = ap groups.Patient (patient_one p q ia ib e)
group_one (groups.Query p) (groups.Query q) ia ib e = ap groups.Query (annotated_one kinds.Q p q ia ib e)
group_one (groups.Patient p) (groups.Query q) ia ib e = let h : p.top.head ≡ q.head = cc in
    absurd (different_kinds p.top.head q.head h ia.top.head ib.head)
group_one (groups.Query p) (groups.Patient q) ia ib e = let h : q.top.head ≡ p.head = cc in
    absurd (different_kinds q.top.head p.head h ib.top.head ia.head)

groups_one : (xs ys : List Group) → AllByRecursion IsGroup xs → AllByRecursion IsGroup ys
    → flat_map group_records xs ≡ flat_map group_records ys → xs ≡ ys
groups_one = pieces_one below_group group_records IsGroup group_piece group_one

groups_stop : (xs : List Group) → AllByRecursion IsGroup xs → HeadFails in_annotated (flat_map group_records xs)
groups_stop [] a = tt
groups_stop (groups.Patient p ∷ xs) a = kind_as in_annotated p.top.head kinds.P false a.0.top.head refl
groups_stop (groups.Query q ∷ xs) a = kind_as in_annotated q.head kinds.Q false a.0.head refl

-- ---- messages

-- two lists with one more record are the same in both parts
snoc_one : (xs ys : List RecordContent) (x y : RecordContent) → xs ++ x ∷ [] ≡ ys ++ y ∷ [] → (xs ≡ ys) × (x ≡ y)
snoc_one [] [] x y e = (refl, cc)
snoc_one [] (b ∷ []) x y e = absurd cc
snoc_one [] (b ∷ c ∷ ys) x y e = absurd cc
snoc_one (a ∷ []) [] x y e = absurd cc
snoc_one (a ∷ c ∷ xs) [] x y e = absurd cc
snoc_one (a ∷ xs) (b ∷ ys) x y e =
    let heads : a ≡ b = cc in
    let tails : xs ++ x ∷ [] ≡ ys ++ y ∷ [] = cc in
    let both = snoc_one xs ys x y tails in
    (let one : xs ≡ ys = both.0 in cc, both.1)

-- a message without its closing record
abbrev pub front_tree : MessageTree → Branch Group
front_tree m = record { top = record { head = m.header; notes = m.notes }; below = m.groups }

pub front_is : (m : MessageTree) → IsTree m → IsBranch kinds.H IsGroup (front_tree m)
front_is m is = record { top = record { head = is.header; notes = is.notes }; below = is.groups }

-- the records of a message and its delimiters determine it
pub flatten_one : (a b : MessageTree) → IsTree a → IsTree b → a.delimiters ≡ b.delimiters → flatten a ≡ flatten b
    → a ≡ b
flatten_one a b ia ib marks e =
    let ends = snoc_one (branch_records group_records (front_tree a)) (branch_records group_records (front_tree b))
    a.closing b.closing e in
    let fronts = branch_one group_records IsGroup kinds.H groups_stop groups_one (front_tree a) (front_tree b)
    (front_is a ia) (front_is b ib) ends.0 in
    ap (λ d. message_tree d (front_tree a) a.closing) marks
    ∙ ap (λ f. message_tree b.delimiters f a.closing) fronts
    ∙ ap (message_tree b.delimiters (front_tree b)) ends.1
