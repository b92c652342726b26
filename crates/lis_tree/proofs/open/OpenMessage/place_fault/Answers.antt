use Rattle.std.proofs.Common.{ap, ◌∙◌}
use Rattle.lis_tree.specs.Begun.{Begun}
use Rattle.lis_tree.specs.Level.{misplaced}
use Rattle.lis_tree.proofs.Levels.{front_misplaced}
use Rattle.lis_tree.proofs.open.OpenMessage.place_fault.Goals as goal

pub returns : goal.returns
returns c =
    c.place_fault.ensures
    ∙ ap (λ l. misplaced l c.args.kind) c.position.ensures
    ∙ front_misplaced c.self.inside.front c.self.invariant.shape c.args.self.now.records
    (ap (λ (b : Begun). b.records) c.self.view_is) c.args.kind
