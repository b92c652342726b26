-- What `is_empty` answers decides the case of the definition.
use Rattle.std.proofs.Common.{◌≡◌, refl, sym, ◌∙◌, true, false}
use Rattle.lis_world.specs.Late.{is_empty}
use Rattle.lis_world.specs.inside.Playing.{world_at}
use Rattle.lis_world.proofs.run.RunOf.start_on_empty.Goals as goal

pub returns-then-not-is_empty : goal.returns-then-not-is_empty
returns-then-not-is_empty g c r is_in =
    let not_empty : is_empty (world_at c.args.self.now r) ≡ false =
    sym (c.is_empty.ensures r) ∙ c.if-not-is_empty.true in
    rw not_empty (record { receiver_is = is_in; world_is = refl })

pub returns : goal.returns
returns g c r is_in =
    let empty : is_empty (world_at c.args.self.now r) ≡ true =
    sym (c.is_empty.ensures r) ∙ c.if-not-is_empty.false in
    rw empty (c.start.ensures.world r is_in)
