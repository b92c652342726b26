-- Sessions that start on new lines start on quiet ones: while no session goes on, nothing comes on a new line.
use Rattle.std.proofs.Common.{◌≡◌, ℕ, Bool, true, false, List, [], ◌∷◌, Option, None, Some, drop, refl, sym, ap, ◌∙◌}
use Rattle.std.proofs.Common.{subst}
use Rattle.std.specs.Prelude.{not, ◌&&◌}
use Rattle.lis_frame.specs.Limit.{IsLimit}
use Rattle.lis_link.specs.declared.sender.Phase.{Phase}
use Rattle.lis_link.specs.declared.sender.Phase.TheVariants as Phases
use Rattle.lis_link.specs.declared.sender.StartFault.{StartFault}
use Rattle.lis_link.specs.Sender.{timer_in, restart_in, start_fault}
use Rattle.lis_world.specs.declared.event.Event.TheVariants.{Start, Deliver, DeliverNoRoom, Damage, Lose, Reply}
use Rattle.lis_world.specs.declared.event.Event.TheVariants.{DamageReply, LoseReply, SenderTimer, ReceiverTimer}
use Rattle.lis_world.specs.declared.event.Event.TheVariants.{RestartSender, RestartReceiver, Ready, Busy, Contending}
use Rattle.lis_world.specs.declared.event.LateEvent.{LateEvent}
use Rattle.lis_world.specs.declared.event.LateEvent.TheVariants.{Happens, Reconnect}
use Rattle.lis_world.specs.Unit.{Travelling}
use Rattle.lis_world.specs.World.{World, new_world}
use Rattle.lis_world.specs.Steps.{with_sender, sender_steps, begins, delivered, room_at, damaged, replied}
use Rattle.lis_world.specs.Steps.{reply_damaged}
use Rattle.lis_world.specs.Late.{reconnected, after_late_event, late_world, reply_may_come, at_any_time}
use Rattle.lis_world.specs.inside.Playing.{runs_late}
use Rattle.lis_world.specs.Late.{is_empty}
use Rattle.lis_world.specs.LateDiscipline.{is_neutral, is_new_after, StartsInTime, StartInTime, SafeOnNewLines}
use Rattle.lis_world.proofs.Invariant.{Holds, AllEndings}
use Rattle.lis_world.proofs.Starting.{can_start, begins_holds}
use Rattle.lis_world.proofs.LateSafety.{HoldsLate, HoldsHushed, hushed_from, heard_holds, from_quiet, unmuted_begun}
use Rattle.lis_world.proofs.LateSafety.{late_event_holds, empty_starts, new_late, safe_from_late}

-- a line that is new since the last session
record IsNewLine (w : World) : Type 0 where
  neutral : w.sender.phase ≡ Phases.Neutral
  no_unit : w.units ≡ []
  no_reply : w.replies ≡ []

abbrev IsNewIf : Bool → World → Type 0
IsNewIf is_new w = is_new ≡ true → IsNewLine w

same_ends : (w v : World) → IsNewLine w → v.sender ≡ w.sender → v.units ≡ w.units → v.replies ≡ w.replies → IsNewLine v
same_ends w v new sender units replies = record {
  neutral = subst (λ s. s.phase ≡ Phases.Neutral) (sym sender) new.neutral;
  no_unit = subst (λ us. us ≡ []) (sym units) new.no_unit;
  no_reply = subst (λ bs. bs ≡ []) (sym replies) new.no_reply;
}

module _ (limit : ℕ) (w : World) (new : IsNewLine w) where
  timer_new : IsNewLine (sender_steps {limit = limit} (timer_in w.sender.phase w.sender) w)
  timer_new =
      subst (λ p. IsNewLine (sender_steps {limit = limit} (timer_in p w.sender) w)) (sym new.neutral)
      (same_ends w (with_sender w.sender w) new refl refl refl)

  restart_new : IsNewLine (with_sender (restart_in w.sender.phase w.sender) w)
  restart_new =
      subst (λ p. IsNewLine (with_sender (restart_in p w.sender) w)) (sym new.neutral)
      (same_ends w (with_sender w.sender w) new refl refl refl)

  -- an event that needs a unit or a reply does nothing
  without_unit : (event : List Travelling → World) → event [] ≡ w → IsNewLine (event w.units)
  without_unit event nothing =
      subst (λ us. IsNewLine (event us)) (sym new.no_unit) (subst IsNewLine (sym nothing) new)

  without_reply : (event : List ℕ → World) → event [] ≡ w → IsNewLine (event w.replies)
  without_reply event nothing =
      subst (λ bs. IsNewLine (event bs)) (sym new.no_reply) (subst IsNewLine (sym nothing) new)

  -- each event but a start leaves a new line new
  no_room_new : IsNewLine (room_at true (delivered limit w.units (room_at false w)))
  no_room_new =
      subst (λ us. IsNewLine (room_at true (delivered limit us (room_at false w)))) (sym new.no_unit)
      (same_ends w (room_at true w) new refl refl refl)

  receiver_new : (v : World) → v.sender ≡ w.sender → v.units ≡ w.units → v.replies ≡ w.replies → IsNewLine v
  receiver_new v = same_ends w v new

-- ---- a session starts

starts_holds :
    (limit : ℕ) (w : World) (may is_new : Bool)
    → HoldsLate limit w
    → w.sender.phase ≡ Phases.Neutral
    → reply_may_come w.sender.outcome ≡ may
    → IsNewIf is_new w
    → (may && not is_new) ≡ false
    → Holds limit w
starts_holds limit w false is_new h neutral may new in_time = heard_holds limit w h neutral may
starts_holds limit w true false h neutral may new in_time = absurd (cc)
starts_holds limit w true true h neutral may new in_time =
    from_quiet limit w h neutral
    (record { no_reply = (new refl).no_reply; endings = subst AllEndings (sym (new refl).no_unit) tt })

start_late :
    (limit : ℕ) (texts : List (List ℕ)) (w : World) (is_new : Bool)
    → HoldsLate limit w
    → IsNewIf is_new w
    → StartsInTime (Happens (Start texts)) w is_new
    → HoldsLate limit (begins limit (start_fault w.sender texts) texts w)
start_late limit texts w is_new h new in_time = record {
  unmuted = unmuted_begun limit (start_fault w.sender texts) texts w h.unmuted;
  hushed = go (start_fault w.sender texts) refl;
}
  where
    go : (fault : Option StartFault) → start_fault w.sender texts ≡ fault
        → HoldsHushed limit (begins limit fault texts w)
    go (Some fault) is = h.hushed
    go None is =
        hushed_from limit (begins limit None texts w)
        (begins_holds limit texts w None is (starts_holds limit w (reply_may_come w.sender.outcome) is_new h
        (can_start w.sender texts is).neutral refl new (in_time is)))

-- ---- one event

abbrev AfterInTime : ℕ → LateEvent → World → Bool → Type 0
AfterInTime limit event w is_new =
    HoldsLate limit (after_late_event at_any_time limit event w)
    × IsNewIf (is_new_after event w is_new) (after_late_event at_any_time limit event w)

reconnected_new : (w : World) (phase : Phase) → w.sender.phase ≡ phase → is_neutral phase ≡ true
    → IsNewLine (reconnected w)
reconnected_new w Phases.Neutral neutral is = record { neutral = neutral; no_unit = refl; no_reply = refl }
reconnected_new w Phases.AwaitLine neutral is = absurd (cc)
reconnected_new w Phases.Busy neutral is = absurd (cc)
reconnected_new w Phases.Contention neutral is = absurd (cc)
reconnected_new w Phases.AwaitReply neutral is = absurd (cc)

module _ (limit : ℕ) (w : World) (is_new : Bool) (is_limit : IsLimit limit) (h : HoldsLate limit w)
    (new : IsNewIf is_new w) where
  holds : (event : LateEvent) → HoldsLate limit (after_late_event is_empty limit event w)
  holds event = late_event_holds is_empty limit event w is_limit (empty_starts limit) h

  after_in_time : (event : LateEvent) → StartsInTime event w is_new → AfterInTime limit event w is_new
  after_in_time (Happens (Start texts)) in_time = (start_late limit texts w is_new h new in_time, λ e. absurd (cc))
  after_in_time (Happens Deliver) in_time = (
    holds (Happens Deliver),
    λ e. without_unit limit w (new e) (λ us. delivered limit us w) refl,
  )
  after_in_time (Happens DeliverNoRoom) in_time = (holds (Happens DeliverNoRoom), λ e. no_room_new limit w (new e))
  after_in_time (Happens (Damage bytes)) in_time = (
    holds (Happens (Damage bytes)),
    λ e. without_unit limit w (new e) (λ us. damaged limit bytes us w) refl,
  )
  after_in_time (Happens Lose) in_time = (
    holds (Happens Lose),
    λ e. without_unit limit w (new e) (λ us. damaged limit [] us w) refl,
  )
  after_in_time (Happens Reply) in_time = (
    holds (Happens Reply),
    λ e. without_reply limit w (new e) (λ bs. replied limit bs w) refl,
  )
  after_in_time (Happens (DamageReply byte)) in_time = (
    holds (Happens (DamageReply byte)),
    λ e. without_reply limit w (new e) (λ bs. reply_damaged limit byte bs w) refl,
  )
  after_in_time (Happens LoseReply) in_time = (
    holds (Happens LoseReply),
    λ e. same_ends w _ (new e) refl refl (ap (drop 1) (new e).no_reply ∙ sym (new e).no_reply),
  )
  after_in_time (Happens SenderTimer) in_time = (holds (Happens SenderTimer), λ e. timer_new limit w (new e))
  after_in_time (Happens ReceiverTimer) in_time = (
    holds (Happens ReceiverTimer),
    λ e. receiver_new limit w (new e) _ refl refl refl,
  )
  after_in_time (Happens RestartSender) in_time = (holds (Happens RestartSender), λ e. restart_new limit w (new e))
  after_in_time (Happens RestartReceiver) in_time = (
    holds (Happens RestartReceiver),
    λ e. receiver_new limit w (new e) _ refl refl refl,
  )
  after_in_time (Happens Ready) in_time = (holds (Happens Ready), λ e. receiver_new limit w (new e) _ refl refl refl)
  after_in_time (Happens Busy) in_time = (holds (Happens Busy), λ e. receiver_new limit w (new e) _ refl refl refl)
  after_in_time (Happens Contending) in_time = (
    holds (Happens Contending),
    λ e. receiver_new limit w (new e) _ refl refl refl,
  )
  after_in_time Reconnect in_time = (holds Reconnect, reconnected_new w w.sender.phase refl)

runs_in_time :
    (limit : ℕ) (events : List LateEvent) (w : World) (is_new : Bool)
    → IsLimit limit
    → HoldsLate limit w
    → IsNewIf is_new w
    → StartInTime limit events w is_new
    → HoldsLate limit (runs_late at_any_time limit events w)
runs_in_time limit [] w is_new is_limit h new in_time = h
runs_in_time limit (event ∷ events) w is_new is_limit h new in_time =
    let after = after_in_time limit w is_new is_limit h new event in_time.0 in
    runs_in_time limit events (after_late_event at_any_time limit event w) (is_new_after event w is_new) is_limit
    after.0 after.1 in_time.1

pub holds_in_time :
    (limit : ℕ) (events : List LateEvent)
    → IsLimit limit
    → StartInTime limit events new_world true
    → HoldsLate limit (late_world at_any_time limit events)
holds_in_time limit events is_limit in_time =
    runs_in_time limit events new_world true is_limit (new_late limit)
    (λ e. record { neutral = refl; no_unit = refl; no_reply = refl }) in_time

pub safe_on_new_lines : (limit : ℕ) → IsLimit limit → SafeOnNewLines limit
safe_on_new_lines limit is_limit events in_time =
    safe_from_late limit (late_world at_any_time limit events) (holds_in_time limit events is_limit in_time)
