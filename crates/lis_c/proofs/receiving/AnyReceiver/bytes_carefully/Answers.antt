-- With a limit on a text, or without one.
use Rattle.std.proofs.Common.{◌≡◌, true, sym, subst}
use Rattle.lis_c.specs.Limits.{kept_by, receiver_limit, spare_of}
use Rattle.lis_c.specs.inside.Careful.{IsHeardSet}
use Rattle.lis_c.proofs.CarefulLaws.{all_set}
use Rattle.lis_c.proofs.receiving.AnyReceiver.bytes_carefully.Goals as goal

pub returns-in-None-clause-heard : goal.returns-in-None-clause-heard
returns-in-None-clause-heard c r is_in =
    let heard = c.all_carefully in
    let limit : receiver_limit heard.new.self ≡ receiver_limit c.args.self.now = heard.ensures.limit in
    subst (λ m. IsHeardSet true (receiver_limit heard.new.self) m c.args.bytes.now r (spare_of c.args.self.now)
    heard.result (kept_by heard.new.self)) (sym c.in-None.is)
    (all_set (receiver_limit heard.new.self) c.args.bytes.now r (spare_of c.args.self.now) heard.result
    (kept_by heard.new.self)
    (rw (sym limit) at (heard.ensures.count r is_in)) (rw (sym limit) at (heard.ensures.noise r is_in))
    (rw (sym limit) at (heard.ensures.step r is_in)) (rw (sym limit) at (heard.ensures.refused r is_in))
    (rw (sym limit) at (heard.ensures.spare r is_in)))
