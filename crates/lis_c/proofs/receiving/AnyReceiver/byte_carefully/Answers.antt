-- EOT was heard, or what the byte is heard as.
use Rattle.std.proofs.Common.{◌≡◌, ◌∷◌, true, false, ap, sym, ◌∙◌, subst}
use Rattle.lis_text.specs.Control.{EOT}
use Rattle.lis_link.specs.Receiver.{ReceiverStep, on_byte}
use Rattle.lis_link.specs.Representation.{IsStepMade, RefusesFrame, SpareAfter}
use Rattle.lis_careful.specs.Careful.{ends_session}
use Rattle.lis_careful.proofs.Receiving.{ended_made, ended_refused, ended_spare}
use Rattle.lis_c.specs.Limits.{kept_by, receiver_limit, spare_of}
use Rattle.lis_c.specs.Within.{on_byte_within}
use Rattle.lis_c.specs.Careful.{on_byte_set}
use Rattle.lis_c.proofs.CarefulLaws.{ends_as, goes_as, refused_as}
use Rattle.lis_c.proofs.receiving.AnyReceiver.byte_carefully.Goals as goal

pub returns-then-closes-clause-step : goal.returns-then-closes-clause-step
returns-then-closes-clause-step c r is_in fine =
    let L = receiver_limit c.args.self.now in
    let limit : receiver_limit c.byte.new.self ≡ L = c.byte.ensures.limit in
    let ends : ends_session r c.args.byte ≡ true = sym (c.closes.ensures r is_in) ∙ c.if-closes.true in
    subst (λ n. IsStepMade n (on_byte_set true L c.args.most c.args.byte r) c.byte.result (kept_by c.byte.new.self))
    (sym limit)
    (subst (λ (s : ReceiverStep). IsStepMade L s c.byte.result (kept_by c.byte.new.self))
    (ends_as L c.args.most c.args.byte r ends)
    (ended_made L c.args.byte r c.byte.result (kept_by c.byte.new.self) ends
    (subst (λ n. IsStepMade n (on_byte L EOT r) c.byte.result (kept_by c.byte.new.self)) limit
    (c.byte.ensures.step r is_in fine))))

pub returns-then-closes-clause-refused : goal.returns-then-closes-clause-refused
returns-then-closes-clause-refused c r is_in out =
    let L = receiver_limit c.args.self.now in
    let ends : ends_session r c.args.byte ≡ true = sym (c.closes.ensures r is_in) ∙ c.if-closes.true in
    ended_refused L c.args.byte (spare_of c.args.self.now) r (record r { past = EOT ∷ r.past }) c.byte.result
    (kept_by c.byte.new.self) _ ends
    (subst (λ n. RefusesFrame n (spare_of c.args.self.now) (on_byte L EOT r) (record r { past = EOT ∷ r.past })
    c.byte.result (kept_by c.byte.new.self)) c.byte.ensures.limit (c.byte.ensures.refused r is_in out))

pub returns-then-closes-clause-spare : goal.returns-then-closes-clause-spare
returns-then-closes-clause-spare c r is_in =
    let L = receiver_limit c.args.self.now in
    let ends : ends_session r c.args.byte ≡ true = sym (c.closes.ensures r is_in) ∙ c.if-closes.true in
    subst (λ (s : ReceiverStep). SpareAfter (spare_of c.args.self.now) (spare_of c.byte.new.self) s.taken)
    (ends_as L c.args.most c.args.byte r ends)
    (ended_spare L c.args.byte (spare_of c.args.self.now) (spare_of c.byte.new.self) r ends
    (c.byte.ensures.spare r is_in))

pub returns-clause-step : goal.returns-clause-step
returns-clause-step c r is_in fine =
    let L = receiver_limit c.args.self.now in
    let step = c.byte_within in
    subst (λ (s : ReceiverStep). IsStepMade (receiver_limit step.new.self) s step.result (kept_by step.new.self))
    (goes_as L c.args.most c.args.byte c.heard_as-heard.result r (sym (c.closes.ensures r is_in) ∙ c.if-closes.false)
    (c.heard_as-heard.ensures r is_in)) (step.ensures.step r is_in fine)

pub returns-clause-refused : goal.returns-clause-refused
returns-clause-refused c r is_in out =
    let L = receiver_limit c.args.self.now in
    let step = c.byte_within in
    let limit : receiver_limit step.new.self ≡ L = step.ensures.limit in
    let b = c.heard_as-heard.result in
    let heard = on_byte_set true L c.args.most c.args.byte r in
    subst (λ n. RefusesFrame n (spare_of c.args.self.now) heard (record r { past = heard.after.past }) step.result
    (kept_by step.new.self)) (sym limit)
    (refused_as L c.args.most c.args.byte b (spare_of c.args.self.now) r step.result (kept_by step.new.self)
    (sym (c.closes.ensures r is_in) ∙ c.if-closes.false) (c.heard_as-heard.ensures r is_in)
    (subst (λ n. RefusesFrame n (spare_of c.args.self.now) (on_byte_within L c.args.most b r)
    (record r { past = b ∷ r.past }) step.result (kept_by step.new.self)) limit (step.ensures.refused r is_in out)))

pub returns-clause-spare : goal.returns-clause-spare
returns-clause-spare c r is_in =
    let L = receiver_limit c.args.self.now in
    let step = c.byte_within in
    subst (λ (s : ReceiverStep). SpareAfter (spare_of c.args.self.now) (spare_of step.new.self) s.taken)
    (goes_as L c.args.most c.args.byte c.heard_as-heard.result r (sym (c.closes.ensures r is_in) ∙ c.if-closes.false)
    (c.heard_as-heard.ensures r is_in)) (step.ensures.spare r is_in)
