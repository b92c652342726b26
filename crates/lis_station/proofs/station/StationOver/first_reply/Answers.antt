-- There is a byte, and the sender has heard the first.
use Rattle.std.proofs.Common.{length, ap, sym, ◌∙◌, subst}
use Rattle.std.proofs.lemmas.Bool.{eqb-false}
use Rattle.lis_station.specs.declared.station.AnswerOf.TheVariants.{Emits}
use Rattle.lis_station.specs.Representation.{KeptStation, station_at, IsAnswer}
use Rattle.lis_station.specs.Station.{StationHearing, routed_bytes}
use Rattle.lis_station.proofs.Answering.{front_replies}
use Rattle.lis_station.proofs.station.StationOver.first_reply.Goals as goal

pub returns-clause-step : goal.returns-clause-step
returns-clause-step g c r is_in =
    let some = eqb-false (length c.args.bytes.now) 0 (sym c.is_empty.ensures ∙ c.if-is_empty.false) in
    subst (λ a. IsAnswer g.row.N c.args.self.now
    (routed_bytes g.row.N a c.args.bytes.now (station_at c.args.self.now r)).step (Emits c.reply.result)
    c.reply.new.self) (sym c.requires)
    (subst (λ (h : StationHearing g.row.N). IsAnswer g.row.N c.args.self.now h.step (Emits c.reply.result)
    c.reply.new.self)
    (sym (front_replies g.row.N c.args.bytes.now (station_at c.args.self.now r) some))
    (record {
      answers = (c.reply.ensures.emit, ap (λ (k : KeptStation). k.receiver) c.reply.ensures.after);
      station_is = ap (λ (k : KeptStation). station_at k r) c.reply.ensures.after;
    }))
