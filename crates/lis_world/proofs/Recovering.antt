-- No state of the two ends blocks the line for good: a sender comes to rest, the link empties, and a session is
-- carried through.
use Rattle.std.proofs.Common.{◌≡◌, ℕ, suc, ◌-◌, ◌≤◌, true, false, List, [], ◌∷◌, ◌++◌, length, map, refl, sym, ap, ◌∙◌}
use Rattle.std.proofs.Common.{subst, arith}
use Rattle.std.specs.Prelude.{replicate}
use Rattle.std.proofs.lemmas.List.{nil_from_length}
use Rattle.lis_frame.specs.Limit.{IsLimit}
use Rattle.lis_link.specs.declared.sender.Phase.{Phase}
use Rattle.lis_link.specs.declared.sender.Phase.TheVariants.{Neutral, AwaitLine, Busy, Contention, AwaitReply}
use Rattle.lis_link.specs.declared.sender.EmitOf.{EmitOf}
use Rattle.lis_link.specs.declared.sender.EmitOf.TheVariants as Emits
use Rattle.lis_link.specs.Sender.{SenderState, start_fault_in, timer_in, on_sender_timer, restart_in}
use Rattle.lis_world.specs.declared.event.Event.{Event}
use Rattle.lis_world.specs.declared.event.Event.TheVariants.{SenderTimer, Ready}
use Rattle.lis_world.specs.Unit.{Travelling}
use Rattle.lis_world.specs.World.{World, new_world}
use Rattle.lis_world.specs.Steps.{emitted, with_sender, delivered, room_at, damaged, given_up, after_event}
use Rattle.lis_world.specs.inside.Playing.{runs}
use Rattle.lis_world.specs.Steps.{world}
use Rattle.lis_frame.specs.Pieces.{session_frames}
use Rattle.lis_world.specs.Progress.{undisturbed, IsCalm}
use Rattle.lis_world.specs.Recovery.{CarriesNext, Leaving, comes, comes_without_room, is_lost, leaving_event}
use Rattle.lis_world.specs.Recovery.{emptying_events, Rest, restart, two_timers, rest_events, Recovers, RecoversQuietly}
use Rattle.lis_world.proofs.Carrying.{runs-append, carries_through, enough-undisturbed}

-- ---- units leave the link while no session goes on

record IsFewer (w v : World) : Type 0 where
  sender_same : v.sender ≡ w.sender
  one_fewer : length v.units ≤ length w.units - 1

still_none : (w : World) → w.units ≡ [] → IsFewer w w
still_none w none =
    let count : length w.units ≡ 0 = ap length none in
    record { sender_same = refl; one_fewer = omega arith }

one_left :
    (w v : World) (u : Travelling) (us : List Travelling) → w.units ≡ u ∷ us → v.sender ≡ w.sender
    → v.units ≡ us → IsFewer w v
one_left w v u us are same left =
    let before : length w.units ≡ suc (length us) = ap length are in
    let after : length v.units ≡ length us = ap length left in
    record { sender_same = same; one_fewer = omega arith }

fewer_delivered :
    (limit : ℕ) (units : List Travelling) (w : World) → w.units ≡ units → IsFewer w (delivered limit units w)
fewer_delivered limit [] w are = still_none w are
fewer_delivered limit (u ∷ us) w are = one_left w (delivered limit (u ∷ us) w) u us are refl refl

fewer_lost : (limit : ℕ) (units : List Travelling) (w : World) → w.units ≡ units → IsFewer w (damaged limit [] units w)
fewer_lost limit [] w are = still_none w are
fewer_lost limit (u ∷ us) w are = one_left w (damaged limit [] (u ∷ us) w) u us are refl refl

fewer_left : (limit : ℕ) (leaving : Leaving) (w : World) → IsFewer w (after_event limit (leaving_event leaving) w)
fewer_left limit comes w = fewer_delivered limit w.units w refl
fewer_left limit comes_without_room w =
    let fewer = fewer_delivered limit w.units (room_at false w) refl in
    record { sender_same = fewer.sender_same; one_fewer = fewer.one_fewer }
fewer_left limit is_lost w = fewer_lost limit w.units w refl

-- no session goes on, and no more than so many units are on the link
record IsEmptying (n : ℕ) (w : World) : Type 0 where
  neutral : w.sender.phase ≡ Neutral
  few : length w.units ≤ n

emptied :
    (limit : ℕ) (leavings : List Leaving) (w : World) → IsEmptying (length leavings) w
    → IsEmptying 0 (runs limit (map leaving_event leavings) w)
emptied limit [] w h = h
emptied limit (leaving ∷ leavings) w h =
    let fewer = fewer_left limit leaving w in
    let few = h.few in
    let one_fewer = fewer.one_fewer in
    emptied limit leavings (after_event limit (leaving_event leaving) w) (record {
      neutral = ap (λ (s : SenderState). s.phase) fewer.sender_same ∙ h.neutral;
      few = omega arith;
    })

pub calm_emptied :
    (limit : ℕ) (leavings : List Leaving) (w : World) → w.sender.phase ≡ Neutral
    → length w.units ≤ length leavings → IsCalm (runs limit (emptying_events leavings) w)
calm_emptied limit leavings w neutral few =
    let v : World = runs limit (map leaving_event leavings) w in
    let h = emptied limit leavings w (record { neutral = neutral; few = few }) in
    subst IsCalm (sym (runs-append limit (map leaving_event leavings) (Ready ∷ []) w))
    (record { no_unit = nil_from_length v.units (let none = h.few in omega arith); neutral = h.neutral; ready = refl })

-- ---- a calm line carries the next session

pub carries_next :
    (limit : ℕ) (events : List Event) → IsLimit limit → IsCalm (world limit events) → CarriesNext limit events
carries_next limit events is_limit calm texts rounds are enough =
    carries_through limit is_limit events texts rounds calm
    (record { not_refused = ap (λ p. start_fault_in p texts) calm.neutral ∙ are.not_refused; few = are.few })
    enough

pub world-append : (limit : ℕ) (xs ys : List Event) → world limit (xs ++ ys) ≡ runs limit ys (world limit xs)
world-append limit xs ys = runs-append limit xs ys new_world

pub emptied_carries_next :
    (limit : ℕ) (events : List Event) (leavings : List Leaving)
    → IsLimit limit
    → (world limit events).sender.phase ≡ Neutral
    → length (world limit events).units ≤ length leavings
    → CarriesNext limit (events ++ emptying_events leavings)
emptied_carries_next limit events leavings is_limit neutral few =
    carries_next limit (events ++ emptying_events leavings) is_limit
    (subst IsCalm (sym (world-append limit events (emptying_events leavings)))
    (calm_emptied limit leavings (world limit events) neutral few))

-- ---- a sender comes to rest

sender-emitted : {limit : ℕ} (emit : EmitOf limit) (w : World) → (emitted emit w).sender ≡ w.sender
sender-emitted Emits.Enq w = refl
sender-emitted emit w = refl

pub sender-timer :
    (limit : ℕ) (w : World)
    → (after_event limit SenderTimer w).sender ≡ (on_sender_timer {limit = limit} w.sender).after
sender-timer limit w =
    let step = on_sender_timer {limit = limit} w.sender in
    sender-emitted step.emit (with_sender step.after (given_up w.sender.phase w))

pub restarted : (phase : Phase) (s : SenderState) → s.phase ≡ phase → (restart_in phase s).phase ≡ Neutral
restarted Neutral s is = is
restarted AwaitLine s is = refl
restarted Busy s is = refl
restarted Contention s is = refl
restarted AwaitReply s is = refl

-- the first timer ends the session or asks for the line once more, and the second ends that
neutral_timer :
    (limit : ℕ) (s : SenderState) → s.phase ≡ Neutral
    → (on_sender_timer {limit = limit} s).after.phase ≡ Neutral
neutral_timer limit s is = ap (λ p. (timer_in {limit = limit} p s).after.phase) is ∙ is

timed_twice :
    (limit : ℕ) (phase : Phase) (s : SenderState)
    → s.phase ≡ phase
    → (on_sender_timer {limit = limit} (timer_in {limit = limit} phase s).after).after.phase ≡ Neutral
timed_twice limit Neutral s is = neutral_timer limit s is
timed_twice limit AwaitLine s is = refl
timed_twice limit Busy s is = refl
timed_twice limit Contention s is = refl
timed_twice limit AwaitReply s is = refl

two_are : SenderTimer ∷ SenderTimer ∷ [] ≡ rest_events two_timers
two_are = refl

rested : (limit : ℕ) (rest : Rest) (w : World) → (runs limit (rest_events rest) w).sender.phase ≡ Neutral
rested limit restart w = restarted w.sender.phase w.sender refl
rested limit two_timers w =
    let v : World = after_event limit SenderTimer w in
    let once = sender-timer limit w in
    let twice = sender-timer limit v in
    subst (λ events. (runs limit events w).sender.phase ≡ Neutral) two_are
    (ap (λ (s : SenderState). s.phase)
    (twice ∙ ap (λ (s : SenderState). (on_sender_timer {limit = limit} s).after) once)
    ∙ timed_twice limit w.sender.phase w.sender refl)

pub recovers : (limit : ℕ) → IsLimit limit → Recovers limit
recovers limit is_limit events rest leavings few =
    let neutral : (world limit (events ++ rest_events rest)).sender.phase ≡ Neutral =
    ap (λ (w : World). w.sender.phase) (world-append limit events (rest_events rest))
    ∙ rested limit rest (world limit events) in
    emptied_carries_next limit (events ++ rest_events rest) leavings is_limit neutral few

pub recovers_quietly : (limit : ℕ) → IsLimit limit → RecoversQuietly limit
recovers_quietly limit is_limit events rest leavings texts few are =
    recovers limit is_limit events rest leavings few texts
    (replicate (length (session_frames limit texts)) undisturbed) are (enough-undisturbed limit texts)
