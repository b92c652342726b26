-- The number that each record of a message should have, read off its tree: its position among the records of its kind
-- under its parent (LIS02-A2).
use Rattle.std.specs.Prelude.{ℕ, ◌+◌, if◌then◌else◌, List, [], ◌∷◌, ◌++◌, Option, Some, None}
use Rattle.lis_record_values.specs.declared.kinds.Kind.{Kind}
use Rattle.lis_record_values.specs.declared.kinds.Kind.TheVariants as kinds
use Rattle.lis_record_values.specs.Shape.{RecordContent, field_at}
use Rattle.lis_tree.specs.declared.numbering.Finding.{Finding}
use Rattle.lis_tree.specs.declared.tree.Group.{Group}
use Rattle.lis_tree.specs.declared.tree.Group.TheVariants as groups
use Rattle.lis_tree.specs.Nodes.{Annotated, OrderTree}
use Rattle.lis_tree.specs.Numbers.{field_number, is_number}
use Rattle.lis_tree.specs.Tree.{MessageTree}
use Rattle.lis_bytes.specs.Capped.{capped}

-- of the notes on a record the comments alone are numbered
abbrev pub comment_number : ℕ → Kind → Option ℕ
comment_number n kinds.C = Some n
comment_number n k = None

abbrev pub next_comment : ℕ → Kind → ℕ
next_comment n kinds.C = n + 1
next_comment n k = n

-- the notes on a record, the next comment of which has this number
abbrev pub note_numbers : ℕ → List RecordContent → List (Option ℕ)
note_numbers n [] = []
note_numbers n (r ∷ notes) = comment_number n r.kind ∷ note_numbers (next_comment n r.kind) notes

-- the results of an order, with their notes, from this number on
abbrev pub result_numbers : ℕ → List Annotated → List (Option ℕ)
result_numbers n [] = []
result_numbers n (r ∷ results) = Some n ∷ note_numbers 1 r.notes ++ result_numbers (n + 1) results

-- the orders of a patient
abbrev pub order_numbers : ℕ → List OrderTree → List (Option ℕ)
order_numbers n [] = []
order_numbers n (o ∷ orders) =
    Some n ∷ note_numbers 1 o.top.notes ++ result_numbers 1 o.below ++ order_numbers (n + 1) orders

-- the patients and queries, each counted by themselves
abbrev pub group_numbers : (patient query : ℕ) → List Group → List (Option ℕ)
group_numbers p q [] = []
group_numbers p q (groups.Patient x ∷ gs) =
    Some p ∷ note_numbers 1 x.top.notes ++ order_numbers 1 x.below ++ group_numbers (p + 1) q gs
group_numbers p q (groups.Query x ∷ gs) = Some q ∷ note_numbers 1 x.notes ++ group_numbers p (q + 1) gs

-- the records of a message, in the order in which they are written
abbrev pub tree_numbers : MessageTree → List (Option ℕ)
tree_numbers m = None ∷ note_numbers 1 m.notes ++ group_numbers 1 1 m.groups ++ Some 1 ∷ []

-- the finding on a record that should have this number
abbrev pub number_finding : ℕ → Option ℕ → RecordContent → List Finding
number_finding place None r = []
number_finding place (Some n) r =
    if is_number (field_number (field_at r 2)) (capped n) then []
    else record { place = capped place; kind = r.kind; expected = capped n } ∷ []

-- the findings on records that should have these numbers
abbrev pub number_findings : ℕ → List (Option ℕ) → List RecordContent → List Finding
number_findings place [] records = []
number_findings place (n ∷ numbers) [] = []
number_findings place (n ∷ numbers) (r ∷ records) =
    number_finding place n r ++ number_findings (place + 1) numbers records
