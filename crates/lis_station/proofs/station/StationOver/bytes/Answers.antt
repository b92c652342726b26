-- A reply is awaited: the sender hears the first byte. Else the receiver has heard the bytes.
use Rattle.std.proofs.Common.{◌≡◌, ◌≤◌, true, false, ap, sym, ◌∙◌, subst, arith}
use Rattle.lis_link.specs.Kept.{Kept}
use Rattle.lis_link.specs.declared.receiver.Note.TheVariants.{OutOfMemory}
use Rattle.lis_link.specs.declared.receiver.Step.{Step}
use Rattle.lis_link.specs.Receiver.{on_bytes}
use Rattle.lis_link.specs.Representation.{SpareAfter}
use Rattle.lis_station.specs.declared.station.AnswerOf.TheVariants.{Hears}
use Rattle.lis_station.specs.Representation.{KeptStation, station_at, IsAnswer}
use Rattle.lis_station.specs.Station.{awaits_reply, routed_bytes, taken_by}
use Rattle.lis_station.proofs.Answering.{heard_made, heard_refused, front_takes_none}
use Rattle.lis_station.proofs.station.StationOver.bytes.Goals as goal

pub returns-then-awaits_reply-clause-step : goal.returns-then-awaits_reply-clause-step
returns-then-awaits_reply-clause-step g c r is_in fine = c.first_reply.ensures.step r is_in

pub returns-then-awaits_reply-clause-refused : goal.returns-then-awaits_reply-clause-refused
returns-then-awaits_reply-clause-refused g c r is_in out = absurd (c.first_reply.ensures.memory out)

pub returns-then-awaits_reply-clause-spare : goal.returns-then-awaits_reply-clause-spare
returns-then-awaits_reply-clause-spare g c r is_in =
    let awaits : awaits_reply c.args.self.now.sender.phase ≡ true =
    sym c.awaits_reply.ensures ∙ c.if-awaits_reply.true in
    let kept : c.args.self.now.receiver.spare ≤ c.first_reply.new.self.receiver.spare =
    subst (λ (k : Kept). c.args.self.now.receiver.spare ≤ k.spare) (sym c.first_reply.ensures.receiver) (omega arith) in
    subst (λ a. SpareAfter c.args.self.now.receiver.spare c.first_reply.new.self.receiver.spare
    (taken_by (routed_bytes g.row.N a c.args.bytes.now (station_at c.args.self.now r)).step.answer)) (sym awaits)
    (subst (λ t. SpareAfter c.args.self.now.receiver.spare c.first_reply.new.self.receiver.spare t)
    (sym (front_takes_none g.row.N c.args.bytes.now (station_at c.args.self.now r))) kept)

pub returns-clause-count : goal.returns-clause-count
returns-clause-count g c r is_in =
    let was = rw (← c.self.view_is) at is_in in
    let rests : awaits_reply c.args.self.now.sender.phase ≡ false =
    sym c.awaits_reply.ensures ∙ c.if-awaits_reply.false in
    subst (λ a. c.bytes-count.result.count
    ≡ (routed_bytes g.row.N a c.args.bytes.now (station_at c.args.self.now r)).count) (sym rests)
    (c.bytes-count.ensures.count r was)

pub returns-clause-step : goal.returns-clause-step
returns-clause-step g c r is_in fine =
    let was = rw (← c.self.view_is) at is_in in
    let rests : awaits_reply c.args.self.now.sender.phase ≡ false =
    sym c.awaits_reply.ensures ∙ c.if-awaits_reply.false in
    let rests_here = rw (← c.self.view_is) at rests in
    let old : KeptStation = record {
      role = c.self.inside.role;
      sender = c.self.inside.sender;
      receiver = c.self.inside.receiver;
      turn = c.self.inside.turn;
      asks_turn = c.self.inside.asks_turn;
    } in
    let note = ap (λ (x : Step). x.note) c.heard.ensures.step in
    rw (← c.self.view_is)
    (subst (λ a. IsAnswer g.row.N old (routed_bytes g.row.N a c.args.bytes.now (station_at old r)).step
    (Hears c.heard.result) c.heard.new.self) (sym rests_here)
    (heard_made g.row.N old c.heard.new.self c.bytes-count.new.self (on_bytes g.row.N c.args.bytes.now r).step r
    c.bytes-count.result.step c.heard.result c.heard.ensures.step c.heard.ensures.after
    (c.bytes-count.ensures.step r was (λ out. fine (note ∙ out)))))

pub returns-clause-refused : goal.returns-clause-refused
returns-clause-refused g c r is_in out =
    let was = rw (← c.self.view_is) at is_in in
    let old : KeptStation = record {
      role = c.self.inside.role;
      sender = c.self.inside.sender;
      receiver = c.self.inside.receiver;
      turn = c.self.inside.turn;
      asks_turn = c.self.inside.asks_turn;
    } in
    let note = ap (λ (x : Step). x.note) c.heard.ensures.step in
    let raw_out : c.bytes-count.result.step.note ≡ OutOfMemory = sym note ∙ out in
    rw (← c.self.view_is)
    (heard_refused g.row.N old c.heard.new.self c.bytes-count.new.self _ _ c.bytes-count.result.step c.heard.result
    c.heard.ensures.step c.heard.ensures.after raw_out (c.bytes-count.ensures.refused r was raw_out))

pub returns-clause-spare : goal.returns-clause-spare
returns-clause-spare g c r is_in =
    let was = rw (← c.self.view_is) at is_in in
    let rests : awaits_reply c.args.self.now.sender.phase ≡ false =
    sym c.awaits_reply.ensures ∙ c.if-awaits_reply.false in
    let spare = c.bytes-count.ensures.spare r was in
    let after = ap (λ (k : KeptStation). k.receiver.spare) c.heard.ensures.after in
    let before = ap (λ (k : KeptStation). k.receiver.spare) c.self.view_is in
    let taken = (on_bytes g.row.N c.args.bytes.now r).step.taken in
    subst (λ a. SpareAfter c.args.self.now.receiver.spare c.heard.new.self.receiver.spare
    (taken_by (routed_bytes g.row.N a c.args.bytes.now (station_at c.args.self.now r)).step.answer)) (sym rests)
    (subst (λ m. SpareAfter c.args.self.now.receiver.spare m taken) (sym after)
    (subst (λ m. SpareAfter m c.bytes-count.new.self.spare taken) before spare))
