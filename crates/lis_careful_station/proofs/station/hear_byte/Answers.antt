-- A reply is the sender's. Else EOT, or what the byte is heard as, was heard.
use Rattle.std.proofs.Common.{◌≡◌, true, false, ap, sym, ◌∙◌, subst}
use Rattle.lis_frame.specs.Stream.{open_body}
use Rattle.lis_link.specs.Receiver.{ReceiverStep}
use Rattle.lis_link.specs.Representation.{IsIn, SpareAfter}
use Rattle.lis_careful.specs.Careful.{ends_session, heard_as}
use Rattle.lis_careful.proofs.Receiving.{ended_spare}
use Rattle.lis_station.specs.Representation.{IsAnswer, station_at}
use Rattle.lis_station.specs.Station.{StationStep, awaits_reply, routed, taken_by}
use Rattle.lis_text.specs.Control.{EOT}
use Rattle.lis_careful_station.specs.Station.{routed_carefully}
use Rattle.lis_careful_station.proofs.Answering.{ended_answer, ended_memory, other_refused}
use Rattle.lis_careful_station.proofs.Pinned.{as_reply, other_is}
use Rattle.lis_careful_station.proofs.station.hear_byte.Goals as goal

pub returns-then-awaits_reply-clause-step : goal.returns-then-awaits_reply-clause-step
returns-then-awaits_reply-clause-step g c r is_in fine =
    let awaits : awaits_reply c.args.station.now.sender.phase ≡ true =
    sym c.awaits_reply.ensures ∙ c.if-awaits_reply.true in
    subst (λ (s : StationStep g.row.N). IsAnswer g.row.N c.args.station.now s c.byte.result c.byte.new.self)
    (as_reply g.row.N c.args.byte (station_at c.args.station.now r) awaits) (c.byte.ensures.step r is_in fine)

pub returns-then-awaits_reply-clause-refused : goal.returns-then-awaits_reply-clause-refused
returns-then-awaits_reply-clause-refused g c r is_in out =
    let awaits : awaits_reply c.args.station.now.sender.phase ≡ true =
    sym c.awaits_reply.ensures ∙ c.if-awaits_reply.true in
    let rests = c.byte.ensures.memory out in
    absurd cc

pub returns-then-awaits_reply-clause-spare : goal.returns-then-awaits_reply-clause-spare
returns-then-awaits_reply-clause-spare g c r is_in =
    let awaits : awaits_reply c.args.station.now.sender.phase ≡ true =
    sym c.awaits_reply.ensures ∙ c.if-awaits_reply.true in
    subst (λ (s : StationStep g.row.N). SpareAfter c.args.station.now.receiver.spare c.byte.new.self.receiver.spare
    (taken_by s.answer)) (as_reply g.row.N c.args.byte (station_at c.args.station.now r) awaits)
    (c.byte.ensures.spare r is_in)

pub returns-then-closes-clause-step : goal.returns-then-closes-clause-step
returns-then-closes-clause-step g c r is_in fine =
    let rests : awaits_reply c.args.station.now.sender.phase ≡ false =
    sym c.awaits_reply.ensures ∙ c.if-awaits_reply.false in
    let here = subst (λ k. IsIn g.row.N k r) (sym c.receiver.ensures) is_in in
    let ends : ends_session r c.args.byte ≡ true = sym (c.closes.ensures r here) ∙ c.if-closes.true in
    subst (λ a. IsAnswer g.row.N c.args.station.now
    (routed_carefully g.row.N a c.args.byte (station_at c.args.station.now r)) c.byte-then-closes.result
    c.byte-then-closes.new.self)
    (sym rests)
    (ended_answer g.row.N c.args.byte c.args.station.now r c.byte-then-closes.result c.byte-then-closes.new.self ends
    (subst (λ a. IsAnswer g.row.N c.args.station.now
    (routed g.row.N a EOT (station_at c.args.station.now r)) c.byte-then-closes.result c.byte-then-closes.new.self)
    rests (c.byte-then-closes.ensures.step r is_in fine)))

pub returns-then-closes-clause-refused : goal.returns-then-closes-clause-refused
returns-then-closes-clause-refused g c r is_in out =
    let here = subst (λ k. IsIn g.row.N k r) (sym c.receiver.ensures) is_in in
    ended_memory g.row.N c.args.byte c.args.station.now r _ c.byte-then-closes.result c.byte-then-closes.new.self _
    (sym (c.closes.ensures r here) ∙ c.if-closes.true) (c.byte-then-closes.ensures.refused r is_in out)

pub returns-then-closes-clause-spare : goal.returns-then-closes-clause-spare
returns-then-closes-clause-spare g c r is_in =
    let here = subst (λ k. IsIn g.row.N k r) (sym c.receiver.ensures) is_in in
    let rests : awaits_reply c.args.station.now.sender.phase ≡ false =
    sym c.awaits_reply.ensures ∙ c.if-awaits_reply.false in
    let before = c.args.station.now.receiver.spare in
    let after = c.byte-then-closes.new.self.receiver.spare in
    subst (λ a. SpareAfter before after
    (taken_by (routed_carefully g.row.N a c.args.byte (station_at c.args.station.now r)).answer)) (sym rests)
    (ended_spare g.row.N c.args.byte before after r
    (sym (c.closes.ensures r here) ∙ c.if-closes.true)
    (subst (λ a. SpareAfter before after
    (taken_by (routed g.row.N a EOT (station_at c.args.station.now r)).answer)) rests
    (c.byte-then-closes.ensures.spare r is_in)))

pub returns-clause-step : goal.returns-clause-step
returns-clause-step g c r is_in fine =
    let rests : awaits_reply c.args.station.now.sender.phase ≡ false =
    sym c.awaits_reply.ensures ∙ c.if-awaits_reply.false in
    let here = subst (λ k. IsIn g.row.N k r) (sym c.receiver.ensures) is_in in
    let again = subst (λ k. IsIn g.row.N k r) (sym c.receiver-2.ensures) is_in in
    let goes : ends_session r c.args.byte ≡ false = sym (c.closes.ensures r here) ∙ c.if-closes.false in
    subst (λ (s : StationStep g.row.N). IsAnswer g.row.N c.args.station.now s c.byte-2.result c.byte-2.new.self)
    (sym (other_is g.row.N c.args.byte (station_at c.args.station.now r) rests goes))
    (subst (λ b. IsAnswer g.row.N c.args.station.now
    (routed g.row.N (awaits_reply c.args.station.now.sender.phase) b (station_at c.args.station.now r)) c.byte-2.result
    c.byte-2.new.self) (c.heard_as-heard.ensures r again) (c.byte-2.ensures.step r is_in fine))

pub returns-clause-refused : goal.returns-clause-refused
returns-clause-refused g c r is_in out =
    let here = subst (λ k. IsIn g.row.N k r) (sym c.receiver.ensures) is_in in
    let again = subst (λ k. IsIn g.row.N k r) (sym c.receiver-2.ensures) is_in in
    other_refused g.row.N c.args.byte c.heard_as-heard.result c.args.station.now r c.byte-2.result c.byte-2.new.self
    (sym (c.closes.ensures r here) ∙ c.if-closes.false) (c.heard_as-heard.ensures r again)
    (c.byte-2.ensures.refused r is_in out)

pub returns-clause-spare : goal.returns-clause-spare
returns-clause-spare g c r is_in =
    let rests : awaits_reply c.args.station.now.sender.phase ≡ false =
    sym c.awaits_reply.ensures ∙ c.if-awaits_reply.false in
    let here = subst (λ k. IsIn g.row.N k r) (sym c.receiver.ensures) is_in in
    let again = subst (λ k. IsIn g.row.N k r) (sym c.receiver-2.ensures) is_in in
    let goes : ends_session r c.args.byte ≡ false = sym (c.closes.ensures r here) ∙ c.if-closes.false in
    let before = c.args.station.now.receiver.spare in
    let after = c.byte-2.new.self.receiver.spare in
    subst (λ (s : StationStep g.row.N). SpareAfter before after (taken_by s.answer))
    (sym (other_is g.row.N c.args.byte (station_at c.args.station.now r) rests goes))
    (subst (λ b. SpareAfter before after (taken_by
    (routed g.row.N (awaits_reply c.args.station.now.sender.phase) b (station_at c.args.station.now r)).answer))
    (c.heard_as-heard.ensures r again) (c.byte-2.ensures.spare r is_in))
