-- The items of a list: one at a place, an only one, one that is put at the end, and lists that are compared.
use Rattle.std.proofs.Common.{◌≡◌, ℕ, ◌<◌, ◌≤◌, Bool, List, [], ◌∷◌, ◌++◌, length, get_or, slice_get, Option, Some}
use Rattle.std.proofs.Common.{None, Bor, Result, Ok, Err, sym, ap, ◌∙◌, subst, arith, is_ok, if◌then◌else◌, OnOk}
use Rattle.std.specs.Option.{option_copied}
use Rattle.std.specs.Slice.{IsItemAt}
use Rattle.std.proofs.lemmas.List.Elements.{All-cons, All-nil}
use Rattle.std.proofs.lemmas.Option.{slice_get-get_or, slice_get_past}
use Rattle.lis_record_values.specs.Shape.{AreSome, RecordContent, Repeats}
use Rattle.lis_record_values.specs.declared.kinds.Kind.{Kind}

-- what is borrowed of a list at a place is the item there
pub item_at : {A : Type 0} (xs : List A) (i : ℕ) (r : Option (Bor A)) → IsItemAt xs i r
    → option_copied r ≡ slice_get xs i
item_at xs i None h = sym (slice_get_past xs i h.3)
item_at xs i (Some x) h = sym (slice_get-get_or xs i x.now h.3.0 ∙ ap Some (sym (h.3.1 x.now)))

-- the items of a list of one
pub only_item : {A : Type 0} (xs : List A) (x : A) → 1 ≤ length xs → length xs < 2 → x ≡ get_or xs 0 x → xs ≡ x ∷ []
only_item [] x some few is = absurd (omega arith)
only_item (y ∷ []) x some few is = ap (λ z. z ∷ []) (sym is)
only_item (y ∷ z ∷ xs) x some few is = absurd (omega arith)

-- a list of one item that is as it is to be
pub one_some : {A : Type 0} (P : A → Type 0) (xs : List A) (x : A) → xs ≡ x ∷ [] → P x → AreSome P xs
one_some P xs x is good = subst (AreSome P) (sym is) record {
  some = omega arith;
  each = All-cons P x [] good (All-nil P);
}

-- a record whose list of fields took one more, unless memory ran out
pub field_pushed : {E : Type 0} (r : Result Unit E) (kind : Kind) (old new : List Repeats) (field : Repeats)
    (content : RecordContent) → record { kind = kind; fields = old } ≡ content
    → new ≡ (if is_ok r then old ++ field ∷ [] else old)
    → OnOk r (record { kind = kind; fields = new } ≡ record content { fields = content.fields ++ field ∷ [] })
field_pushed (Ok done) kind old new field content same is =
    ap (λ (fields : List Repeats). record { kind = kind; fields = fields }) is
    ∙ ap (λ (entry : RecordContent). record entry { fields = entry.fields ++ field ∷ [] }) same
field_pushed (Err error) kind old new field content same is = tt

-- two lists are compared by what is borrowed of them
pub compared : {A : Type 0} (same : List A → List A → Bool) (result : Bool) (borrowed other xs ys : List A)
    → result ≡ same borrowed other → borrowed ≡ xs → other ≡ ys → result ≡ same xs ys
compared same result borrowed other xs ys is first second = is ∙ ap (λ l. same l other) first ∙ ap (same xs) second
