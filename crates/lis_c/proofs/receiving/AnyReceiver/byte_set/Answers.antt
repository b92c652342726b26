-- By whether the receiver hears carefully.
use Rattle.std.proofs.Common.{◌∷◌, [], sym, subst}
use Rattle.lis_link.specs.Representation.{IsStepMade, RefusesFrame, SpareAfter}
use Rattle.lis_c.specs.Limits.{kept_by, receiver_limit, spare_of}
use Rattle.lis_c.specs.Careful.{heard_set, on_byte_set}
use Rattle.lis_c.proofs.receiving.AnyReceiver.byte_set.Goals as goal

pub returns-then-careful-clause-step : goal.returns-then-careful-clause-step
returns-then-careful-clause-step c r is_in fine =
    let step = c.byte_carefully in
    subst (λ t. IsStepMade (receiver_limit step.new.self) (on_byte_set t (receiver_limit c.args.self.now) c.args.most
    c.args.byte r) step.result (kept_by step.new.self)) (sym c.if-careful.true) (step.ensures.step r is_in fine)

pub returns-then-careful-clause-refused : goal.returns-then-careful-clause-refused
returns-then-careful-clause-refused c r is_in out =
    let step = c.byte_carefully in
    subst (λ t. RefusesFrame (receiver_limit step.new.self) (spare_of c.args.self.now)
    (on_byte_set t (receiver_limit c.args.self.now) c.args.most c.args.byte r)
    (heard_set t (on_byte_set t (receiver_limit c.args.self.now) c.args.most c.args.byte r) (c.args.byte ∷ []) r)
    step.result (kept_by step.new.self)) (sym c.if-careful.true) (step.ensures.refused r is_in out)

pub returns-then-careful-clause-spare : goal.returns-then-careful-clause-spare
returns-then-careful-clause-spare c r is_in =
    let step = c.byte_carefully in
    subst (λ t. SpareAfter (spare_of c.args.self.now) (spare_of step.new.self)
    (on_byte_set t (receiver_limit c.args.self.now) c.args.most c.args.byte r).taken) (sym c.if-careful.true)
    (step.ensures.spare r is_in)

pub returns-else-careful-clause-step : goal.returns-else-careful-clause-step
returns-else-careful-clause-step c r is_in fine =
    let step = c.byte_within in
    subst (λ t. IsStepMade (receiver_limit step.new.self) (on_byte_set t (receiver_limit c.args.self.now) c.args.most
    c.args.byte r) step.result (kept_by step.new.self)) (sym c.if-careful.false) (step.ensures.step r is_in fine)

pub returns-else-careful-clause-refused : goal.returns-else-careful-clause-refused
returns-else-careful-clause-refused c r is_in out =
    let step = c.byte_within in
    subst (λ t. RefusesFrame (receiver_limit step.new.self) (spare_of c.args.self.now)
    (on_byte_set t (receiver_limit c.args.self.now) c.args.most c.args.byte r)
    (heard_set t (on_byte_set t (receiver_limit c.args.self.now) c.args.most c.args.byte r) (c.args.byte ∷ []) r)
    step.result (kept_by step.new.self)) (sym c.if-careful.false) (step.ensures.refused r is_in out)

pub returns-else-careful-clause-spare : goal.returns-else-careful-clause-spare
returns-else-careful-clause-spare c r is_in =
    let step = c.byte_within in
    subst (λ t. SpareAfter (spare_of c.args.self.now) (spare_of step.new.self)
    (on_byte_set t (receiver_limit c.args.self.now) c.args.most c.args.byte r).taken) (sym c.if-careful.false)
    (step.ensures.spare r is_in)
