use Rattle.std.proofs.Common.{ap, ◌∙◌}
use Rattle.lis_tree.specs.Begun.{Begun}
use Rattle.lis_tree.proofs.Levels.{front_misplaced}
use Rattle.lis_tree.proofs.open.OpenMessage.push.Goals as goal

pub push_record-requires-clause-placed : goal.push_record-requires-clause-placed
push_record-requires-clause-placed c =
    front_misplaced c.self.inside.front c.self.invariant.shape c.args.self.now.records
    (ap (λ (b : Begun). b.records) c.self.view_is) c.args.entry.kind
    ∙ c.requires.placed
