use Rattle.std.proofs.Common.{rules}
use Rattle.lis_line.specs.inside.Kept.{KeptLine}
use Rattle.lis_line.proofs.LineLaws.{timed_out, is_sent}
use Rattle.lis_line.proofs.line.LineOf.wait_no_more.Goals as goal

pub returns-in-Emits : goal.returns-in-Emits
returns-in-Emits g c r q near far closed =
    let forgot : KeptLine = record {
      near = c.self.inside.near;
      far = c.self.inside.far;
      outward = c.self.inside.outward.items;
      inward = c.self.inside.inward.items;
    } in
    timed_out c.emit.result g.row.N r.is_open c.args.self.now forgot _ c.emit.new.self r q c.in-Emits.emit closed
    near far
    (search rules) (search rules) (c.in-Emits.ensures.step r (search rules))
    (is_sent c.emit.result g.row.N _ c.emit.new.self c.in-Emits.emit c.emit.ensures.near c.emit.ensures.far
    c.emit.ensures.line)
