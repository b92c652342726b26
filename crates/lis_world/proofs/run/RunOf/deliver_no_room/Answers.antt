-- The unit is delivered between the two calls that set the room: `without_room`.
use Rattle.std.proofs.Common.{IsOk, rules}
use Rattle.lis_world.specs.inside.Playing.{KeptWorld}
use Rattle.lis_world.proofs.PlayingLaws.{without_room}
use Rattle.lis_world.proofs.run.RunOf.deliver_no_room.Goals as goal

pub returns : goal.returns
returns g c r is_in =
    let is_ok : IsOk c.deliver.result = search rules in
    let old : KeptWorld = record {
      sender = c.self.inside.sender;
      computer_state = c.self.inside.computer_state;
      units = c.self.inside.units.items;
      replies = c.self.inside.replies.items;
      to_drop = c.self.inside.to_drop;
      current = c.self.inside.current;
    } in
    let came : KeptWorld = record {
      sender = c.self-2.inside.sender;
      computer_state = c.self-2.inside.computer_state;
      units = c.self-2.inside.units.items;
      replies = c.self-2.inside.replies.items;
      to_drop = c.self-2.inside.to_drop;
      current = c.self-2.inside.current;
    } in
    rw (← c.self.view_is)
    (without_room c.deliver.result g.row.N old came c.set_room.new.self c.set_room-2.new.self r
    (c.set_room.ensures r (rw (← c.self.view_is) at is_in))
    (rw (← c.self-2.view_is) at c.deliver.ensures)
    c.set_room-2.ensures is_ok)
