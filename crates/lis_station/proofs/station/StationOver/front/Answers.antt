-- A reply is awaited: the sender hears the first byte. Else the receiver has heard the front.
use Rattle.std.proofs.Common.{◌≡◌, ◌≤◌, true, false, ap, sym, take, ◌∙◌, subst, arith}
use Rattle.lis_link.specs.declared.receiver.Note.TheVariants.{OutOfMemory}
use Rattle.lis_link.specs.declared.receiver.Step.{Step}
use Rattle.lis_link.specs.Receiver.{on_bytes}
use Rattle.lis_link.specs.Representation.{SpareAfter}
use Rattle.lis_station.specs.declared.station.AnswerOf.TheVariants.{Emits, Hears}
use Rattle.lis_station.specs.Representation.{KeptStation, station_at, IsAnswer}
use Rattle.lis_station.specs.Station.{StationHearing, awaits_reply, routed_bytes, taken_by}
use Rattle.lis_station.proofs.Answering.{heard_made, heard_refused, front_first, front_takes_none}
use Rattle.lis_station.proofs.station.StationOver.front.Goals as goal

pub returns-then-awaits_reply-clause-count : goal.returns-then-awaits_reply-clause-count
returns-then-awaits_reply-clause-count g c r is_in =
    let awaits : awaits_reply c.args.self.now.sender.phase ≡ true =
    sym c.awaits_reply.ensures ∙ c.if-awaits_reply.true in
    let s = station_at c.args.self.now r in
    subst (λ a. 1 ≡ (routed_bytes g.row.N a (take 1 c.args.bytes.now) s).count) (sym awaits)
    (sym (ap (λ (h : StationHearing g.row.N). h.count) (front_first g.row.N c.args.bytes.now s c.requires)))

pub returns-then-awaits_reply-clause-step : goal.returns-then-awaits_reply-clause-step
returns-then-awaits_reply-clause-step g c r is_in fine =
    let awaits : awaits_reply c.args.self.now.sender.phase ≡ true =
    sym c.awaits_reply.ensures ∙ c.if-awaits_reply.true in
    let s = station_at c.args.self.now r in
    subst (λ a. IsAnswer g.row.N c.args.self.now (routed_bytes g.row.N a (take 1 c.args.bytes.now) s).step
    (Emits c.reply.result) c.reply.new.self) (sym awaits)
    (subst (λ (h : StationHearing g.row.N). IsAnswer g.row.N c.args.self.now h.step (Emits c.reply.result)
    c.reply.new.self)
    (sym (front_first g.row.N c.args.bytes.now s c.requires))
    (record {
      answers = (c.reply.ensures.emit, ap (λ (k : KeptStation). k.receiver) c.reply.ensures.after);
      station_is = ap (λ (k : KeptStation). station_at k r) c.reply.ensures.after;
    }))

pub returns-then-awaits_reply-clause-spare : goal.returns-then-awaits_reply-clause-spare
returns-then-awaits_reply-clause-spare g c r is_in =
    let awaits : awaits_reply c.args.self.now.sender.phase ≡ true =
    sym c.awaits_reply.ensures ∙ c.if-awaits_reply.true in
    let s = station_at c.args.self.now r in
    let kept : c.args.self.now.receiver.spare ≤ c.reply.new.self.receiver.spare =
    subst (λ (k : KeptStation). c.args.self.now.receiver.spare ≤ k.receiver.spare) (sym c.reply.ensures.after)
    (omega arith) in
    subst (λ a. SpareAfter c.args.self.now.receiver.spare c.reply.new.self.receiver.spare
    (taken_by (routed_bytes g.row.N a (take 1 c.args.bytes.now) s).step.answer)) (sym awaits)
    (subst (λ t. SpareAfter c.args.self.now.receiver.spare c.reply.new.self.receiver.spare t)
    (sym (front_takes_none g.row.N (take 1 c.args.bytes.now) s)) kept)

pub returns-clause-count : goal.returns-clause-count
returns-clause-count g c r is_in =
    let was = rw (← c.self.view_is) at is_in in
    let rests : awaits_reply c.args.self.now.sender.phase ≡ false =
    sym c.awaits_reply.ensures ∙ c.if-awaits_reply.false in
    subst (λ a. c.front-count.result.count
    ≡ (routed_bytes g.row.N a (take c.front-count.result.count c.args.bytes.now)
    (station_at c.args.self.now r)).count) (sym rests)
    (c.front-count.ensures.count r was)

pub returns-clause-step : goal.returns-clause-step
returns-clause-step g c r is_in fine =
    let was = rw (← c.self.view_is) at is_in in
    let rests : awaits_reply c.args.self.now.sender.phase ≡ false =
    sym c.awaits_reply.ensures ∙ c.if-awaits_reply.false in
    let rests_here = rw (← c.self.view_is) at rests in
    let old : KeptStation = record {
      role = c.self.inside.role;
      sender = c.self.inside.sender;
      receiver = c.self.inside.receiver;
      turn = c.self.inside.turn;
      asks_turn = c.self.inside.asks_turn;
    } in
    let note = ap (λ (x : Step). x.note) c.heard.ensures.step in
    rw (← c.self.view_is)
    (subst (λ a. IsAnswer g.row.N old
    (routed_bytes g.row.N a (take c.front-count.result.count c.args.bytes.now) (station_at old r)).step
    (Hears c.heard.result) c.heard.new.self) (sym rests_here)
    (heard_made g.row.N old c.heard.new.self c.front-count.new.self
    (on_bytes g.row.N (take c.front-count.result.count c.args.bytes.now) r).step r
    c.front-count.result.step c.heard.result c.heard.ensures.step c.heard.ensures.after
    (c.front-count.ensures.step r was (λ out. fine (note ∙ out)))))

pub returns-clause-refused : goal.returns-clause-refused
returns-clause-refused g c r is_in out =
    let was = rw (← c.self.view_is) at is_in in
    let old : KeptStation = record {
      role = c.self.inside.role;
      sender = c.self.inside.sender;
      receiver = c.self.inside.receiver;
      turn = c.self.inside.turn;
      asks_turn = c.self.inside.asks_turn;
    } in
    let note = ap (λ (x : Step). x.note) c.heard.ensures.step in
    let raw_out : c.front-count.result.step.note ≡ OutOfMemory = sym note ∙ out in
    rw (← c.self.view_is)
    (heard_refused g.row.N old c.heard.new.self c.front-count.new.self _ _ c.front-count.result.step c.heard.result
    c.heard.ensures.step c.heard.ensures.after raw_out (c.front-count.ensures.refused r was raw_out))

pub returns-clause-spare : goal.returns-clause-spare
returns-clause-spare g c r is_in =
    let was = rw (← c.self.view_is) at is_in in
    let rests : awaits_reply c.args.self.now.sender.phase ≡ false =
    sym c.awaits_reply.ensures ∙ c.if-awaits_reply.false in
    let spare = c.front-count.ensures.spare r was in
    let after = ap (λ (k : KeptStation). k.receiver.spare) c.heard.ensures.after in
    let before = ap (λ (k : KeptStation). k.receiver.spare) c.self.view_is in
    let taken = (on_bytes g.row.N (take c.front-count.result.count c.args.bytes.now) r).step.taken in
    subst (λ a. SpareAfter c.args.self.now.receiver.spare c.heard.new.self.receiver.spare
    (taken_by (routed_bytes g.row.N a (take c.front-count.result.count c.args.bytes.now)
    (station_at c.args.self.now r)).step.answer)) (sym rests)
    (subst (λ m. SpareAfter c.args.self.now.receiver.spare m taken) (sym after)
    (subst (λ m. SpareAfter m c.front-count.new.self.spare taken) before spare))
