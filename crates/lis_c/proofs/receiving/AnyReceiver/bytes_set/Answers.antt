-- By whether the receiver hears carefully.
use Rattle.std.proofs.Common.{refl, sym, subst}
use Rattle.lis_c.specs.Limits.{kept_by, receiver_limit, spare_of}
use Rattle.lis_c.specs.inside.Careful.{IsHeardSet}
use Rattle.lis_c.proofs.receiving.AnyReceiver.bytes_set.Goals as goal

pub returns-then-careful-clause-heard : goal.returns-then-careful-clause-heard
returns-then-careful-clause-heard c r is_in =
    subst (λ t. IsHeardSet t (receiver_limit c.bytes_carefully.new.self) c.args.most c.args.bytes.now r
    (spare_of c.args.self.now) c.bytes_carefully.result (kept_by c.bytes_carefully.new.self)) (sym c.if-careful.true)
    (c.bytes_carefully.ensures.heard r is_in)

pub returns-clause-heard : goal.returns-clause-heard
returns-clause-heard c r is_in =
    let heard = c.bytes_within-count in
    subst (λ t. IsHeardSet t (receiver_limit heard.new.self) c.args.most c.args.bytes.now r
    (spare_of c.args.self.now) (record { count = heard.result.count; noise = 0; step = heard.result.step })
    (kept_by heard.new.self)) (sym c.if-careful.false)
    (record {
      count_is = rw (sym heard.ensures.limit) at (heard.ensures.count r is_in);
      noise_is = refl;
      makes = rw (sym heard.ensures.limit) at (heard.ensures.step r is_in);
      refused = rw (sym heard.ensures.limit) at (heard.ensures.refused r is_in);
      spare_after = rw (sym heard.ensures.limit) at (heard.ensures.spare r is_in);
    })
