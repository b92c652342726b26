use Rattle.std.proofs.Common.{IsOk, arith, rules, drop, length-drop, subst, sym}
use Rattle.std.proofs.lemmas.List.{take_rest, drop-drop, drop_all}
use Rattle.lis_link.specs.Representation.{IsIn}
use Rattle.lis_world.specs.World.{hears}
use Rattle.lis_world.specs.inside.Playing.{computer_state_at}
use Rattle.lis_world.proofs.PlayingLaws.{IsHearing, hearing_next, heard_all, with_receiver}
use Rattle.lis_world.proofs.computer_state.ComputerStateOf.hear.Goals as goal

pub loop-taken-preserved : goal.loop-taken-preserved
loop-taken-preserved g c = (
  let more = rw (take_rest c.args.bytes.now c.loop-taken.taken) at c.bytes-count.ensures.bound in
      omega (arith, length-drop c.loop-taken.taken c.args.bytes.now, more, c.loop-taken.invariant.0),
  λ r is_in only.
      let hearing = c.loop-taken.invariant.1 r is_in only in
      let goes_to = hears g.row.N c.args.unit.now.session c.args.bytes.now (computer_state_at c.args.self.now r) in
      let is_ok : IsOk c.book.result = search rules in
      let here = rw (← c.self.view_is) at hearing.is_in in
      let receiver_is = subst (λ k. IsIn g.row.N k hearing.state) (sym c.deref_mut.ensures.value) here in
      subst (λ left. IsHearing g.row.N c.args.unit.now.session c.args.unit.now.load c.book.new.self left goes_to)
      (drop-drop c.bytes-count.result.count c.loop-taken.taken c.args.bytes.now)
      (hearing_next c.book.result g.row.N c.args.unit.now.session c.args.unit.now.load
      (drop c.loop-taken.taken c.args.bytes.now) goes_to c.loop-taken.self _ c.book.new.self
      c.bytes-count.result hearing
      (rw (take_rest c.args.bytes.now c.loop-taken.taken) at (c.bytes-count.ensures.count hearing.state receiver_is))
      c.book.ensures.memory
      (rw (take_rest c.args.bytes.now c.loop-taken.taken) at (c.bytes-count.ensures.step hearing.state receiver_is))
      (with_receiver _ c.loop-taken.self c.bytes-count.new.self c.self.view_is)
      c.book.ensures.receiver
      c.book.ensures.computer_state
      is_ok),
)

pub returns : goal.returns
returns g c r is_in only =
    heard_all _ _ _ _ _ _ (c.loop-taken.invariant.1 r is_in only)
    (drop_all c.loop-taken.taken c.args.bytes.now (omega arith))
