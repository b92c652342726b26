-- The last of a list, and what is last below a record.
use Rattle.std.specs.Prelude.{◌≡◌, ◌-◌, List, [], ◌∷◌, ◌++◌, length, slice_set}
use Rattle.lis_tree.specs.Nodes.{Branch}

-- an item is the last of a list
abbrev pub IsLast : {A : Type 0} → List A → A → Type 0
IsLast {A} items item = (front : List A) × (items ≡ front ++ item ∷ [])

-- another item in place of the last below a record
abbrev pub with_last : {A : Type 0} → Branch A → A → Branch A
with_last b item = record { top = b.top; below = slice_set b.below (length b.below - 1) item }
