use Rattle.std.proofs.Common.{arith}
use Rattle.uses.proofs.ReceptionLaws.{begun, goes_on_following, goes_on_unanswered, was_acknowledged, was_closed}
use Rattle.uses.proofs.ReceptionLaws.{was_given_up}
use Rattle.uses.proofs.computer.next_text.Goals.{in-None, in-Some-message+else-keep_then_reply}
use Rattle.uses.proofs.computer.next_text.Goals as goal

pub loop-turn-init : goal.loop-turn-init
loop-turn-init g c = λ r state. begun r _ _ state

pub returns-in_default : goal.returns-in_default
returns-in_default g c = λ r state. rw c.in_default.ensures.1
    (was_closed r _ (g.H.Connection.event_log c.loop-turn.host) _ c.loop-turn._turn c.loop-turn.receiver
    (c.loop-turn.invariant r state) c.loop-turn-test.true
    (rw c.in_default.ensures.0 at c.wait-event.ensures))

pub returns-then-keep_then_reply : goal.returns-then-keep_then_reply
returns-then-keep_then_reply g c = λ r state.
    was_acknowledged r _ (g.H.Connection.event_log c.loop-turn.host) (g.H.Connection.event_log c.wait-event.new.self) _
    c.loop-turn._turn
    c.loop-turn.receiver c.step_at.new.receiver c.keep_then_reply.new.receiver c.wait-event.result c.in-Some.step
    c.in-Some-message.text (c.loop-turn.invariant r state) c.loop-turn-test.true c.in-Some.ensures.0
    c.in-Some.ensures.1 c.in-Some-message.is c.wait-event.ensures
    (rw c.if-keep_then_reply.true at c.keep_then_reply.ensures)

pub loop-turn-preserved : goal.loop-turn-preserved
loop-turn-preserved g c = λ r state.
    elim c.match-message.branch [
      | in-None w ↦ rw (w.host-is, w.receiver-is)
          (goes_on_following r _ (g.H.Connection.event_log c.loop-turn.host)
          (g.H.Connection.event_log c.wait-event.new.self) _
          c.loop-turn._turn c.loop-turn.receiver c.step_at.new.receiver c.wait-event.result c.in-Some.step
          w.is_open.result (c.loop-turn.invariant r state) c.in-Some.ensures.0 c.in-Some.ensures.1 w.is_open.ensures
          w.in-None.is c.wait-event.ensures w.put.ensures)
      | in-Some-message+else-keep_then_reply w ↦ rw (w.host-is, w.receiver-is)
          (goes_on_unanswered r _ (g.H.Connection.event_log c.loop-turn.host)
          (g.H.Connection.event_log c.wait-event.new.self) _
          c.loop-turn._turn c.loop-turn.receiver c.step_at.new.receiver w.keep_then_reply.new.receiver
          c.wait-event.result c.in-Some.step w.in-Some-message.text (c.loop-turn.invariant r state)
          c.in-Some.ensures.0 c.in-Some.ensures.1 w.in-Some-message.is c.wait-event.ensures
          (rw w.if-keep_then_reply.false at w.keep_then_reply.ensures))
    ]

pub returns : goal.returns
returns g c = λ r state.
    was_given_up r _ _ c.loop-turn._turn c.loop-turn.receiver (c.loop-turn.invariant r state)
    (omega (arith, c.loop-turn-test.false, c.loop-turn.auto._turn-end))
