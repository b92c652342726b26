use Rattle.std.proofs.Common.{rules}
use Rattle.lis_line.specs.inside.Kept.{KeptLine}
use Rattle.lis_line.proofs.LineLaws.{restarted_near}
use Rattle.lis_line.proofs.line.LineOf.restart.Goals as goal

pub returns : goal.returns
returns g c r q near far =
    let forgot : KeptLine = record {
      near = c.self.inside.near;
      far = c.self.inside.far;
      outward = c.self.inside.outward.items;
      inward = c.self.inside.inward.items;
    } in
    restarted_near g.row.N c.args.self.now forgot _ c.restart.new.self r q near far (search rules)
    c.restart.ensures.state c.restart.ensures.same (search rules)
