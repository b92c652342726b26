use Rattle.lis_tree.proofs.Notes.{notes_placed, placed_flatten}
use Rattle.lis_tree.proofs.laws.notes.Goals as goal

pub returns-clause-records : goal.returns-clause-records
returns-clause-records c = placed_flatten

pub returns-clause-notes : goal.returns-clause-notes
returns-clause-notes c = notes_placed
