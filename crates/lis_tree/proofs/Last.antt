-- What follows where the last of a list is changed, or one more comes after it.
use Rattle.std.proofs.Common.{◌≡◌, ℕ, ◌-◌, ◌<◌, List, [], ◌∷◌, ◌++◌, length, slice_set, arith, sym, ◌∙◌, ap, subst}
use Rattle.std.proofs.Common.{append_assoc, length-append, append-nil, Some, ◌+◌, slice_get, take, Result, Ok, Err}
use Rattle.std.proofs.Common.{OnOk}
use Rattle.std.proofs.Common.{OnErr}
use Rattle.std.specs.declared.alloc.AllocError.{AllocError}
use Rattle.std.proofs.lemmas.List.{take_more}
use Rattle.std.proofs.lemmas.Option.{get_or_from_slice_get, slice_get_within}
use Rattle.std.proofs.ByRecursion.{All-append}
use Rattle.std.proofs.Math.Seq.{set-append_seam, take-length}
use Rattle.std.proofs.lemmas.Grind.{flat_map-append}
use Rattle.std.specs.List.{AllByRecursion, flat_map}
use Rattle.lis_record_values.specs.Shape.{RecordContent}
use Rattle.lis_record_values.specs.declared.kinds.Kind.{Kind}
use Rattle.lis_tree.specs.Nodes.{Branch}
use Rattle.lis_tree.specs.Tree.{IsBranch, branch_records, annotated_records}
use Rattle.lis_tree.specs.inside.Last.{IsLast, with_last}

all_but_last : {A : Type 0} (P : A → Type 0) (front : List A) (item : A) → AllByRecursion P (front ++ item ∷ [])
    → AllByRecursion P front × P item
all_but_last P [] item all = (tt, all.0)
all_but_last P (x ∷ front) item all = let rest = all_but_last P front item all.1 in ((all.0, rest.0), rest.1)

module _ {A : Type 0} (items : List A) (item : A) (last : IsLast items item) where
  set_last : (new : A) → slice_set items (length items - 1) new ≡ last.0 ++ new ∷ []
  set_last new =
      let place : length items - 1 ≡ length last.0 =
      omega (arith, ap length last.1, length-append last.0 (item ∷ [])) in
      ap (λ (xs : List A). slice_set xs (length items - 1) new) last.1
      ∙ ap (λ (i : ℕ). slice_set (last.0 ++ item ∷ []) i new) place
      ∙ set-append_seam last.0 item [] new

  -- the records of all, where the last has further records
  pub last_records : (f : A → List RecordContent) (new : A) (more : List RecordContent) → f new ≡ f item ++ more
      → flat_map f (slice_set items (length items - 1) new) ≡ flat_map f items ++ more
  last_records f new more is =
      ap (flat_map f) (set_last new) ∙ flat_map-append f last.0 (new ∷ [])
      ∙ ap (λ l. flat_map f last.0 ++ l) (append-nil (f new) ∙ is)
      ∙ sym (append_assoc (flat_map f last.0) (f item) more)
      ∙ ap (λ l. l ++ more) (sym (ap (flat_map f) last.1 ∙ flat_map-append f last.0 (item ∷ [])
      ∙ ap (λ l. flat_map f last.0 ++ l) (append-nil (f item))))

  -- what holds of all holds of the last
  pub last_holds : (P : A → Type 0) → AllByRecursion P items → P item
  last_holds P all = (all_but_last P last.0 item (subst (AllByRecursion P) last.1 all)).1

  -- and of all where it holds of another last
  pub with_last_holds : (P : A → Type 0) (new : A) → AllByRecursion P items → P new
      → AllByRecursion P (slice_set items (length items - 1) new)
  with_last_holds P new all here = subst (AllByRecursion P) (sym (set_last new))
      (All-append P last.0 (new ∷ []) (all_but_last P last.0 item (subst (AllByRecursion P) last.1 all)).0 (here, tt))

-- ---- a branch

pub on_ok : {X Y : Type 0} (result : Result (Unit {0}) AllocError) → (X → Y) → OnOk result X → OnOk result Y
on_ok (Ok done) f x = f x
on_ok (Err e) f x = tt

on_err : {X Y : Type 0} (result : Result (Unit {0}) AllocError) → (X → Y) → OnErr result X → OnErr result Y
on_err (Ok done) f x = tt
on_err (Err e) f x = f x

module _ {A : Type 0} (b : Branch A) (item : A) (last : IsLast b.below item) (new : A) where
  -- the last below it has one record more
  pub branch_records_more : (f : A → List RecordContent) (r : RecordContent) → f new ≡ f item ++ r ∷ []
      → branch_records f (with_last b new) ≡ branch_records f b ++ r ∷ []
  branch_records_more f r is =
      ap (λ l. annotated_records b.top ++ l) (last_records b.below item last f new (r ∷ []) is)
      ∙ sym (append_assoc (annotated_records b.top) (flat_map f b.below) (r ∷ []))

  -- and is what is there
  pub branch_is : (kind : Kind) (Is : A → Type 0) → IsBranch kind Is b → (Is item → Is new)
      → IsBranch kind Is (with_last b new)
  branch_is kind Is is keeps = record {
    top = is.top;
    below = with_last_holds b.below item last Is new is.below (keeps (last_holds b.below item last Is is.below));
  }

  -- or is as it was
  pub branch_same : new ≡ item → with_last b new ≡ b
  branch_same is = ap (λ (l : List A). record { top = b.top; below = l })
      (set_last b.below item last new ∙ ap (λ (x : A). last.0 ++ x ∷ []) is ∙ sym last.1)

  -- the same as a call says it
  module _ (result : Result (Unit {0}) AllocError) where
    pub records_on : (f : A → List RecordContent) (r : RecordContent) → OnOk result (f new ≡ f item ++ r ∷ [])
        → OnOk result (branch_records f (with_last b new) ≡ branch_records f b ++ r ∷ [])
    records_on f r = on_ok result (branch_records_more f r)

    pub shape_on : (kind : Kind) (Is : A → Type 0) (Joins : Type 0) → OnOk result (Is item → Joins → Is new)
        → OnOk result (IsBranch kind Is b → Joins → IsBranch kind Is (with_last b new))
    shape_on kind Is Joins = on_ok result (λ keeps is joins. branch_is kind Is is (λ one. keeps one joins))

    pub same_on : OnErr result (new ≡ item) → OnErr result (with_last b new ≡ b)
    same_on = on_err result branch_same

-- ---- what code says about the last

pub is_last : {A : Type 0} (items : List A) (item : A) → slice_get items (length items - 1) ≡ Some item
    → IsLast items item
is_last {A = A} items item at =
    let i = length items - 1 in
    let within : i < length items = slice_get_within items i item at in
    let whole : i + 1 ≡ length items = omega (arith, within) in (
      take i items,
      sym (take-length items) ∙ ap (λ (n : ℕ). take n items) (sym whole) ∙ take_more items i item within
          ∙ ap (λ (x : A). take i items ++ x ∷ []) (get_or_from_slice_get items i item item at),
    )
