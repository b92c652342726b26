-- What comes before the first field delimiter holds none, by Lacks-first.
use Rattle.std.proofs.Common.{◌≡◌, ◌∷◌, ℕ, List}
use Rattle.lis_record_values.specs.Relation.{Lacks}
use Rattle.lis_record_read.specs.FrontReading.{parts_following, parts_of}
use Rattle.lis_record_read.proofs.FieldTexts.{Lacks-first}
use Rattle.lis_record.proofs.borrowed.BorrowedFields.next.Goals as goal

first_lacks : (mark byte : ℕ) (text part rest : List ℕ) → parts_of byte text ≡ part ∷ parts_following byte rest
    → byte ≡ mark → Lacks mark part
first_lacks mark byte text part rest parts is = rw is at (Lacks-first byte text part rest parts)

pub of_text-requires : goal.of_text-requires
of_text-requires c = search first_lacks
