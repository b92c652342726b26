use Rattle.std.proofs.Common.{refl, sym, get_or, ◌∙◌}
use Rattle.lis_careful.specs.Careful.{on_byte_carefully}
use Rattle.lis_careful.proofs.Fronts.{front_taken}
use Rattle.lis_careful.proofs.Receiving.{careful-quiet, front_byte}
use Rattle.lis_careful.proofs.receiver.hear_front.Goals as goal

pub returns-then-is_altered-clause-front : goal.returns-then-is_altered-clause-front
returns-then-is_altered-clause-front g c r is_in =
    front_byte g.row.N (on_byte_carefully g.row.N) (get_or c.args.bytes.now 0 0) c.noise_of-noise.result
    c.args.bytes.now r c.args.receiver.now.spare c.hear_byte.result c.hear_byte.new.receiver c.requires
    (careful-quiet g.row.N (get_or c.args.bytes.now 0 0) r) refl
    (c.noise_of-noise.ensures.count r is_in) (c.hear_byte.ensures.step r is_in)
    (c.hear_byte.ensures.refused r is_in) (c.hear_byte.ensures.spare r is_in)

pub returns-clause-front : goal.returns-clause-front
returns-clause-front g c r is_in =
    let front = c.front-count in
    front_taken g.row.N c.args.bytes.now r c.args.receiver.now.spare front.result front.new.self front.ensures.some
    front.ensures.bound (sym (c.is_altered.ensures r is_in) ∙ c.if-is_altered.false) front.ensures.front
    (front.ensures.count r is_in) (front.ensures.step r is_in) (front.ensures.refused r is_in)
    (front.ensures.spare r is_in)
