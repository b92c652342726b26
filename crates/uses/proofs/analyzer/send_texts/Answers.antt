use Rattle.std.proofs.Common.{◌≡◌, Some, None, refl, arith, sym, ap, ◌∙◌}
use Rattle.std.proofs.lemmas.Bool.{false≢true}
use Rattle.lis_link.specs.Duties.{timer_seconds}
use Rattle.lis_link.specs.Sender.{SenderState}
use Rattle.uses.specs.Analyzer.{sender_step_at}
use Rattle.uses.proofs.SessionLaws.{begun, goes_on_answered, goes_on_quiet, was_closed, was_given_up, was_finished}
use Rattle.uses.proofs.analyzer.send_texts.Goals.{then-not-means_nothing, else-not-means_nothing}
use Rattle.uses.proofs.analyzer.send_texts.Goals as goal

pub loop-turn-init : goal.loop-turn-init
loop-turn-init g c =
    rw c.in_ok-enquiry.ensures.2 (begun _ c.args.sender.now _ (g.L.Connection.event_log c.renew.new.line)
    (g.L.Connection.event_log c.put.new.line) _
    (rw c.outcome-last.ensures at c.renew.ensures)
    (rw c.in_ok-enquiry.ensures.1 at c.put.ensures) c.start_timer.ensures)

pub returns-in_default-clause-session : goal.returns-in_default-clause-session
returns-in_default-clause-session g c = (
  c.in_ok-enquiry.ensures.0,
  was_closed _ _ _ _ _ c.loop-turn._turn c.loop-turn.sender _ c.loop-turn.invariant c.loop-turn-test.true
      (rw c.in_default.ensures.0 at c.wait-event.ensures)
      c.in_default.ensures.1,
)

pub returns-in_default-timer_seconds-clause-session : goal.returns-in_default-timer_seconds-clause-session
returns-in_default-timer_seconds-clause-session g c =
    let event = c.wait-event.result in
    let after = c.in-Some.ensures.2 in
    let none : timer_seconds (sender_step_at event c.loop-turn.sender).after.phase ≡ None =
    ap (λ (s : SenderState). timer_seconds s.phase) (sym after) ∙ ap timer_seconds (sym c.phase.ensures)
    ∙ sym c.timer_seconds.ensures ∙ c.in_default-timer_seconds.is in (
      c.in_ok-enquiry.ensures.0,
      rw (c.outcome.ensures, after) (was_finished _ _ _ _
          (g.L.Connection.event_log c.wait-event.new.self) _ c.loop-turn._turn c.loop-turn.sender event
          c.loop-turn.invariant c.loop-turn-test.true c.in-Some.ensures.0 c.wait-event.ensures
          (rw c.in-Some.ensures.1 at c.put-in-loop-turn.ensures) none),
    )

pub loop-turn-preserved : goal.loop-turn-preserved
loop-turn-preserved g c =
    let event = c.wait-event.result in
    let after = c.in-Some.ensures.2 in
    let phase : c.phase-in-loop-turn.result ≡ (sender_step_at event c.loop-turn.sender).after.phase =
    c.phase-in-loop-turn.ensures ∙ ap (λ (s : SenderState). s.phase) after in
    let some :
    timer_seconds (sender_step_at event c.loop-turn.sender).after.phase ≡ Some c.in-Some-timer_seconds.seconds =
    ap (λ (s : SenderState). timer_seconds s.phase) (sym after) ∙ ap timer_seconds (sym c.phase.ensures)
    ∙ sym c.timer_seconds.ensures ∙ c.in-Some-timer_seconds.is in
    let puts = rw c.in-Some.ensures.1 at c.put-in-loop-turn.ensures in
    elim c.if-not-means_nothing.branch [
      | then-not-means_nothing w ↦ rw (after, w.line-is)
          (goes_on_answered _ _ _ _ (g.L.Connection.event_log c.wait-event.new.self)
          (g.L.Connection.event_log c.put-in-loop-turn.new.line) _ c.loop-turn._turn
          c.loop-turn.sender event c.in-Some-timer_seconds.seconds c.loop-turn.invariant c.in-Some.ensures.0
          c.wait-event.ensures puts
          w.start_timer-then-not-means_nothing.ensures some
          (λ nothing. false≢true (rw w.if-not-means_nothing.true at (c.means_nothing.ensures.1
          (c.in-Some.ensures.1 ∙ nothing.0, phase ∙ nothing.1 ∙ sym c.phase-before.ensures)))))
      | else-not-means_nothing w ↦
          let nothing = c.means_nothing.ensures.0 (rw w.if-not-means_nothing.false refl) in
          rw (after, w.line-is)
          (goes_on_quiet _ _ _ _ (g.L.Connection.event_log c.wait-event.new.self) _ c.loop-turn._turn c.loop-turn.sender
          event
          c.in-Some-timer_seconds.seconds c.loop-turn.invariant c.in-Some.ensures.0 c.wait-event.ensures puts some
          (sym c.in-Some.ensures.1 ∙ nothing.0, sym phase ∙ nothing.1 ∙ c.phase-before.ensures))
    ]

pub returns-clause-session : goal.returns-clause-session
returns-clause-session g c = (
  c.in_ok-enquiry.ensures.0,
  was_given_up _ _ _ _ c.loop-turn._turn c.loop-turn.sender _ c.loop-turn.invariant
      (omega (arith, c.loop-turn-test.false, c.loop-turn.auto._turn-end)) c.restart.ensures,
)
