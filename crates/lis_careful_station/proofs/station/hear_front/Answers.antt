-- One byte, or those that the receiver hears at once.
use Rattle.std.proofs.Common.{◌≡◌, ◌≢◌, false, refl, ap, sym, get_or, take, ◌∙◌, subst}
use Rattle.lis_link.specs.declared.receiver.Hearing.{Hearing}
use Rattle.lis_link.specs.Receiver.{on_bytes}
use Rattle.lis_link.specs.Representation.{IsIn, SpareAfter}
use Rattle.lis_careful.specs.Careful.{on_byte_carefully}
use Rattle.lis_careful.proofs.Fronts.{front_taken}
use Rattle.lis_careful.proofs.Receiving.{careful-quiet, front_byte}
use Rattle.lis_station.specs.Representation.{IsAnswer, station_at}
use Rattle.lis_station.specs.Station.{awaits_reply, routed_bytes, taken_by}
use Rattle.lis_careful_station.specs.Station.{routed_carefully}
use Rattle.lis_careful_station.proofs.Answering.{raw_of, step_room}
use Rattle.lis_careful_station.proofs.station.hear_front.Goals as goal

pub returns-then-is_altered-clause-front : goal.returns-then-is_altered-clause-front
returns-then-is_altered-clause-front g c r is_in rests =
    let b = get_or c.args.bytes.now 0 0 in
    let old = c.args.station.now in
    let new = c.hear_byte.new.station in
    let own = raw_of g.row.N (on_byte_carefully g.row.N b r) r _ old c.hear_byte.result new
    (λ fine. subst (λ a. IsAnswer g.row.N old (routed_carefully g.row.N a b (station_at old r)) c.hear_byte.result new)
    rests (c.hear_byte.ensures.step r is_in fine))
    (λ out. c.hear_byte.ensures.refused r is_in out) in
    record {
      raw = own.raw;
      turned = rw (sym c.step_of.ensures) at own.turned;
      front = front_byte g.row.N (on_byte_carefully g.row.N) b c.noise_of-noise.result c.args.bytes.now r
          old.receiver.spare own.raw new.receiver c.requires (careful-quiet g.row.N b r) refl
          (c.noise_of-noise.ensures.count r
          (subst (λ k. IsIn g.row.N k r) (sym c.receiver-then-is_altered.ensures) is_in)) own.makes own.refused
          (subst (λ a. SpareAfter old.receiver.spare new.receiver.spare
          (taken_by (routed_carefully g.row.N a b (station_at old r)).answer)) rests
          (c.hear_byte.ensures.spare r is_in));
    }

pub returns-then-is_altered-clause-room : goal.returns-then-is_altered-clause-room
returns-then-is_altered-clause-room g c =
    rw (sym c.step_of.ensures) at
    (step_room g.row.N c.hear_byte.result c.args.station.now.receiver c.hear_byte.new.station.receiver
    c.hear_byte.ensures.room)

pub returns-clause-front : goal.returns-clause-front
returns-clause-front g c r is_in rests =
    let old = c.args.station.now in
    let heard = c.front-count in
    let new = heard.new.self in
    let front = take heard.result.count c.args.bytes.now in
    let own = raw_of g.row.N (on_bytes g.row.N front r).step r _ old heard.result.answer new
    (λ fine. subst (λ a. IsAnswer g.row.N old (routed_bytes g.row.N a front (station_at old r)).step
    heard.result.answer new) rests (heard.ensures.step r is_in fine))
    (λ out. heard.ensures.refused r is_in out) in
    let raw : Hearing = record { count = heard.result.count; step = own.raw } in
    record {
      raw = own.raw;
      turned = rw (sym c.step_of-2.ensures) at own.turned;
      front = front_taken g.row.N c.args.bytes.now r old.receiver.spare raw new.receiver heard.ensures.some
          heard.ensures.bound
          (sym (c.is_altered.ensures r (subst (λ k. IsIn g.row.N k r) (sym c.receiver.ensures) is_in))
          ∙ c.if-is_altered.false) (heard.ensures.front rests)
          (subst (λ a. heard.result.count ≡ (routed_bytes g.row.N a front (station_at old r)).count) rests
          (heard.ensures.count r is_in)) own.makes own.refused
          (subst (λ a. SpareAfter old.receiver.spare new.receiver.spare
          (taken_by (routed_bytes g.row.N a front (station_at old r)).step.answer)) rests
          (heard.ensures.spare r is_in));
    }

pub returns-clause-room : goal.returns-clause-room
returns-clause-room g c =
    rw (sym c.step_of-2.ensures) at
    (step_room g.row.N c.front-count.result.answer c.args.station.now.receiver c.front-count.new.self.receiver
    c.front-count.ensures.room)
