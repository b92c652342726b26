use Rattle.std.proofs.Common.{rules}
use Rattle.lis_line.proofs.LineLaws.{emits_byte, hears_byte, is_sent}
use Rattle.lis_line.proofs.line.LineOf.hear.Goals as goal

pub returns-in-Emits : goal.returns-in-Emits
returns-in-Emits g c r q near far =
    rw (← c.self.view_is)
    (emits_byte c.emit.result g.row.N c.args.byte _ c.args.item.now _ _ c.emit.new.self r q c.in-Emits.emit
    (rw (← c.self.view_is) at near) (rw (← c.self.view_is) at far) (search rules)
    (c.in-Emits.ensures.step r (rw (← c.self.view_is) at near) (search rules))
    (is_sent c.emit.result g.row.N _ c.emit.new.self c.in-Emits.emit c.emit.ensures.near c.emit.ensures.far
    c.emit.ensures.line))

pub returns-in-Hears : goal.returns-in-Hears
returns-in-Hears g c r q near far =
    rw (← c.self.view_is)
    (hears_byte c.book.result g.row.N c.args.byte _ c.args.item.now _ _ c.book.new.self r q _ c.in-Hears.step
    (rw (← c.self.view_is) at near) (rw (← c.self.view_is) at far) (search rules)
    (c.ended_frame-frame.ensures r (rw (← c.self.view_is) at near))
    (c.in-Hears.ensures.step r (rw (← c.self.view_is) at near))
    c.book.ensures.memory c.book.ensures.line)
