-- No reply is awaited: the receiver has heard the byte.
use Rattle.std.proofs.Common.{◌≡◌, false, ap, sym, ◌∙◌, subst}
use Rattle.lis_link.specs.declared.receiver.Note.TheVariants.{OutOfMemory}
use Rattle.lis_link.specs.declared.receiver.Step.{Step}
use Rattle.lis_link.specs.Receiver.{on_byte}
use Rattle.lis_link.specs.Representation.{SpareAfter}
use Rattle.lis_station.specs.Representation.{KeptStation, station_at}
use Rattle.lis_station.specs.Station.{awaits_reply, routed, taken_by}
use Rattle.lis_station.proofs.Answering.{heard_refused}
use Rattle.lis_station.proofs.station.StationOver.byte.Goals as goal

pub returns-clause-refused : goal.returns-clause-refused
returns-clause-refused g c r is_in out =
    let was = rw (← c.self.view_is) at is_in in
    let old : KeptStation = record {
      role = c.self.inside.role;
      sender = c.self.inside.sender;
      receiver = c.self.inside.receiver;
      turn = c.self.inside.turn;
      asks_turn = c.self.inside.asks_turn;
    } in
    let note = ap (λ (x : Step). x.note) c.heard.ensures.step in
    let raw_out : c.byte-step.result.note ≡ OutOfMemory = sym note ∙ out in
    rw (← c.self.view_is)
    (heard_refused g.row.N old c.heard.new.self c.byte-step.new.self _ _ c.byte-step.result c.heard.result
    c.heard.ensures.step c.heard.ensures.after raw_out (c.byte-step.ensures.refused r was raw_out))

pub returns-clause-spare : goal.returns-clause-spare
returns-clause-spare g c r is_in =
    let was = rw (← c.self.view_is) at is_in in
    let rests : awaits_reply c.args.self.now.sender.phase ≡ false =
    sym c.awaits_reply.ensures ∙ c.if-awaits_reply.false in
    let spare = c.byte-step.ensures.spare r was in
    let after = ap (λ (k : KeptStation). k.receiver.spare) c.heard.ensures.after in
    let before = ap (λ (k : KeptStation). k.receiver.spare) c.self.view_is in
    let taken = (on_byte g.row.N c.args.byte r).taken in
    subst (λ a. SpareAfter c.args.self.now.receiver.spare c.heard.new.self.receiver.spare
    (taken_by (routed g.row.N a c.args.byte (station_at c.args.self.now r)).answer)) (sym rests)
    (subst (λ m. SpareAfter c.args.self.now.receiver.spare m taken) (sym after)
    (subst (λ m. SpareAfter m c.byte-step.new.self.spare taken) before spare))
