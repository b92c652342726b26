use Rattle.std.proofs.Common.{◌++◌, refl, rules, sym, ◌∙◌}
use Rattle.std.proofs.lemmas.Bool.{eqb-true}
use Rattle.lis_record_commands.specs.Messages.{IsReadingMessages}
use Rattle.lis_record_commands.proofs.RecordSteps.{advances_none, advances_then, all_advanced, record_advances}
use Rattle.lis_record_commands.proofs.RecordSteps.{record_stops, stops_then}
use Rattle.lis_record_commands.proofs.messages.MessagesMachineRefused.feed.Goals as goal

pub loop-rest-init : goal.loop-rest-init
loop-rest-init g c = record { working = c.requires; same = refl; so_far = advances_none c.requires }

-- ---- the record is whole in the bytes

pub loop-rest-preserved : goal.loop-rest-preserved
loop-rest-preserved g c = record {
  working = c.in_default-take.ensures.left;
  same = c.take.ensures.same ∙ c.loop-rest.invariant.same;
  so_far = advances_then c.loop-rest.invariant.so_far
      (record_advances g.C.MessageMachine.writes (g.C.MessageMachine.represents c.loop-rest.self.counted.command)
      (g.C.MessageMachine.represents c.take.new.self.command) c.loop-rest.self.reader c.read_whole.new.self
      _ _ _ _ _ _ _
      (λ left has. (c.in-Some.ensures.read left has).1) c.in_default-take.ensures.steps);
}

pub returns-in-Err-clause-steps : goal.returns-in-Err-clause-steps
returns-in-Err-clause-steps g c = λ past text reading few.
    stops_then c.loop-rest.invariant.so_far
    (record_stops g.C.MessageMachine.writes (g.C.MessageMachine.represents c.loop-rest.self.counted.command)
    (g.C.MessageMachine.represents c.take.new.self.command) c.loop-rest.self.reader c.read_whole.new.self _
    c.take.new.self.count _ _ _ _ _
    (λ left has. (c.in-Some.ensures.read left has).1) c.in-Err.fault c.in-Err.ensures.steps)
    (λ all. ⊥) past text reading few

-- ---- it is not, and what was left is as before

pub loop-rest-preserved-in_default : goal.loop-rest-preserved-in_default
loop-rest-preserved-in_default g c = record {
  working = c.in_ok-rest.ensures.works;
  same = c.read_next.ensures.same ∙ c.loop-rest.invariant.same;
  so_far = advances_then (rw (sym c.in_default.ensures.none) at c.loop-rest.invariant.so_far) c.in_ok-rest.ensures.ok;
}

pub returns-in_err-rest-clause-steps : goal.returns-in_err-rest-clause-steps
returns-in_err-rest-clause-steps g c = λ past text reading few.
    let after = c.read_next.new.self in
    let stops =
    stops_then (rw (sym c.in_default.ensures.none) at c.loop-rest.invariant.so_far) c.in_err-rest.ensures.err
    (IsReadingMessages g.C.MessageMachine.writes (g.C.MessageMachine.represents after.counted.command) after.reader
    after.counted.count (past ++ c.args.bytes.now))
    past text reading few in
    search (rules, stops)

pub returns-clause-steps : goal.returns-clause-steps
returns-clause-steps g c = λ past text reading few.
    all_advanced c.loop-rest.rest.now c.loop-rest.invariant.so_far
    (eqb-true _ 0 (sym c.loop-rest-test.ensures)) past text reading few
