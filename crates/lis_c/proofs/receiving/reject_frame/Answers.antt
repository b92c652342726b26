-- The frame that STX begins is no good one, and nothing is taken.
use Rattle.std.proofs.Common.{◌≤◌, ◌∷◌, refl, subst, arith}
use Rattle.lis_link.specs.Receiver.{ReceiverState, on_byte}
use Rattle.lis_link.specs.Representation.{SpareAfter}
use Rattle.lis_text.specs.Control.{LF, STX}
use Rattle.lis_c.proofs.WithinLaws.{begun, begun_takes, ended_takes, has_memory, rejected}
use Rattle.lis_c.proofs.receiving.reject_frame.Goals as goal

pub returns-clause-step : goal.returns-clause-step
returns-clause-step g c r is_in opened =
    let first = c.byte-begun in
    let calm = has_memory g.row.N c.args.receiver.now.spare (on_byte g.row.N STX r) (record r { past = STX ∷ r.past })
    first.result first.new.self (begun_takes g.row.N r) (first.ensures.refused r is_in) in
    let is_begun = begun g.row.N r first.result first.new.self (first.ensures.step r is_in calm) in
    let next : ReceiverState = record r { past = STX ∷ r.past } in
    let fine = has_memory g.row.N first.new.self.spare (on_byte g.row.N LF next) (record next { past = LF ∷ next.past })
    c.byte-ended.result c.byte-ended.new.self (ended_takes g.row.N r) (c.byte-ended.ensures.refused next is_begun) in
    record {
      answer = record { reply_is = refl; message_is = refl; note_is = refl };
      state = rejected g.row.N r c.byte-ended.result c.byte-ended.new.self opened
          (c.byte-ended.ensures.step next is_begun fine);
    }

pub returns-clause-spare : goal.returns-clause-spare
returns-clause-spare g c r is_in =
    let first = c.byte-begun in
    let calm = has_memory g.row.N c.args.receiver.now.spare (on_byte g.row.N STX r) (record r { past = STX ∷ r.past })
    first.result first.new.self (begun_takes g.row.N r) (first.ensures.refused r is_in) in
    let is_begun = begun g.row.N r first.result first.new.self (first.ensures.step r is_in calm) in
    let next : ReceiverState = record r { past = STX ∷ r.past } in
    let before : c.args.receiver.now.spare ≤ first.new.self.spare =
    subst (λ taken. SpareAfter c.args.receiver.now.spare first.new.self.spare taken) (begun_takes g.row.N r)
    (first.ensures.spare r is_in) in
    let after : first.new.self.spare ≤ c.byte-ended.new.self.spare =
    subst (λ taken. SpareAfter first.new.self.spare c.byte-ended.new.self.spare taken) (ended_takes g.row.N r)
    (c.byte-ended.ensures.spare next is_begun) in
    omega (arith, before, after)
