-- A reply is the sender's.
use Rattle.std.proofs.Common.{◌≡◌, true, ap, sym, ◌∙◌, subst}
use Rattle.lis_link.specs.Representation.{SpareAfter}
use Rattle.lis_station.specs.Representation.{IsAnswer, station_at}
use Rattle.lis_station.specs.Station.{awaits_reply, routed_bytes, taken_by}
use Rattle.lis_careful_station.specs.Station.{noise_routed, routed_bytes_carefully}
use Rattle.lis_careful_station.proofs.station.hear_bytes.Goals as goal

pub returns-then-awaits_reply-clause-count : goal.returns-then-awaits_reply-clause-count
returns-then-awaits_reply-clause-count g c r is_in =
    let awaits : awaits_reply c.args.station.now.sender.phase ≡ true =
    sym c.awaits_reply.ensures ∙ c.if-awaits_reply.true in
    let s = station_at c.args.station.now r in
    subst (λ a. c.bytes-count.result.count ≡ (routed_bytes_carefully g.row.N a c.args.bytes.now s).count) (sym awaits)
    (subst (λ a. c.bytes-count.result.count ≡ (routed_bytes g.row.N a c.args.bytes.now s).count) awaits
    (c.bytes-count.ensures.count r is_in))

pub returns-then-awaits_reply-clause-noise : goal.returns-then-awaits_reply-clause-noise
returns-then-awaits_reply-clause-noise g c r is_in =
    let awaits : awaits_reply c.args.station.now.sender.phase ≡ true =
    sym c.awaits_reply.ensures ∙ c.if-awaits_reply.true in
    sym (ap (λ a. noise_routed g.row.N a c.args.bytes.now (station_at c.args.station.now r)) awaits)

pub returns-then-awaits_reply-clause-step : goal.returns-then-awaits_reply-clause-step
returns-then-awaits_reply-clause-step g c r is_in fine =
    let awaits : awaits_reply c.args.station.now.sender.phase ≡ true =
    sym c.awaits_reply.ensures ∙ c.if-awaits_reply.true in
    let s = station_at c.args.station.now r in
    subst (λ a. IsAnswer g.row.N c.args.station.now (routed_bytes_carefully g.row.N a c.args.bytes.now s).step
    c.bytes-count.result.answer c.bytes-count.new.self) (sym awaits)
    (subst (λ a. IsAnswer g.row.N c.args.station.now (routed_bytes g.row.N a c.args.bytes.now s).step
    c.bytes-count.result.answer c.bytes-count.new.self) awaits (c.bytes-count.ensures.step r is_in fine))

pub returns-then-awaits_reply-clause-refused : goal.returns-then-awaits_reply-clause-refused
returns-then-awaits_reply-clause-refused g c r is_in out =
    let awaits : awaits_reply c.args.station.now.sender.phase ≡ true =
    sym c.awaits_reply.ensures ∙ c.if-awaits_reply.true in
    let rests = c.bytes-count.ensures.memory out in
    absurd cc

pub returns-then-awaits_reply-clause-spare : goal.returns-then-awaits_reply-clause-spare
returns-then-awaits_reply-clause-spare g c r is_in =
    let awaits : awaits_reply c.args.station.now.sender.phase ≡ true =
    sym c.awaits_reply.ensures ∙ c.if-awaits_reply.true in
    let s = station_at c.args.station.now r in
    let before = c.args.station.now.receiver.spare in
    let after = c.bytes-count.new.self.receiver.spare in
    subst (λ a. SpareAfter before after
    (taken_by (routed_bytes_carefully g.row.N a c.args.bytes.now s).step.answer)) (sym awaits)
    (subst (λ a. SpareAfter before after (taken_by (routed_bytes g.row.N a c.args.bytes.now s).step.answer)) awaits
    (c.bytes-count.ensures.spare r is_in))
