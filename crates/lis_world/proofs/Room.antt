-- The receiver has room before each event and after it.
use Rattle.std.proofs.Common.{◌≡◌, ℕ, Bool, true, false, List, [], ◌∷◌, Option, None, Some, refl, ap, ◌∙◌}
use Rattle.std.specs.Prelude.{◌==◌, ◌||◌}
use Rattle.std.proofs.lemmas.Bool.{cond_both}
use Rattle.lis_text.specs.Control.{EOT, ACK}
use Rattle.lis_frame.specs.Stream.{signal_after, signals_after}
use Rattle.lis_link.specs.declared.sender.Phase.{Phase}
use Rattle.lis_link.specs.declared.sender.Phase.TheVariants as Phases
use Rattle.lis_link.specs.declared.sender.EmitOf.{EmitOf}
use Rattle.lis_link.specs.declared.sender.EmitOf.TheVariants as Emits
use Rattle.lis_link.specs.declared.sender.StartFault.{StartFault}
use Rattle.lis_link.specs.Sender.{on_reply, on_sender_timer, start_fault}
use Rattle.lis_link.specs.Receiver.{ReceiverState, ReceiverStep, on_byte}
use Rattle.lis_link.specs.Receiver.{timer_by}
use Rattle.lis_world.specs.declared.event.Event.{Event}
use Rattle.lis_world.specs.declared.event.Event.TheVariants.{Start, Deliver, DeliverNoRoom, Damage, Lose, Reply}
use Rattle.lis_world.specs.declared.event.Event.TheVariants.{DamageReply, LoseReply, SenderTimer, ReceiverTimer}
use Rattle.lis_world.specs.declared.event.Event.TheVariants.{RestartSender, RestartReceiver, Ready, Busy, Contending}
use Rattle.lis_world.proofs.Heard.{heard_leaves, booked_after}
use Rattle.lis_world.specs.Unit.{Travelling, load_bytes}
use Rattle.lis_world.specs.World.{World, ComputerState, computer_state_of, booked, hears, settled}
use Rattle.lis_world.specs.Steps.{emitted, with_sender, sender_steps, begins, delivered, is_noticed, damaged}
use Rattle.lis_world.specs.Steps.{replied, reply_damaged, given_up, after_event}
use Rattle.lis_world.specs.inside.Playing.{runs}

-- hearing bytes leaves the room as it is
room-hears : (limit s : ℕ) (bytes : List ℕ) (d : ComputerState) → (hears limit s bytes d).receiver.room
    ≡ d.receiver.room
room-hears limit s [] d = refl
room-hears limit s (b ∷ bytes) d =
    let step : ReceiverStep = on_byte limit b d.receiver in
    room-hears limit s bytes (booked s step d)
    ∙ ap (λ (r : ReceiverState). r.room) (booked_after s step d)
    ∙ (heard_leaves (signal_after limit d.receiver.past b) (record d.receiver { past = b ∷ d.receiver.past })).1

room-timer : (is_open : Bool) (r : ReceiverState) → (timer_by is_open r).after.room ≡ r.room
room-timer true r = refl
room-timer false r = refl

-- and so does each event
abbrev HasRoom : World → Type 0
HasRoom w = w.receiver.room ≡ true

room-delivered : (limit : ℕ) (units : List Travelling) (w : World) → HasRoom w → HasRoom (delivered limit units w)
room-delivered limit [] w has = has
room-delivered limit (u ∷ us) w has = room-hears limit u.session (load_bytes u.load) (computer_state_of w) ∙ has

room-damaged :
    (limit : ℕ) (bytes : List ℕ) (units : List Travelling) (w : World) → HasRoom w
    → HasRoom (damaged limit bytes units w)
room-damaged limit bytes [] w has = has
room-damaged limit bytes (u ∷ us) w has =
    cond_both (is_noticed u.load (signals_after limit w.receiver.past bytes))
    (settled us (hears limit u.session bytes (computer_state_of w)) w) w HasRoom
    (λ noticed. room-hears limit u.session bytes (computer_state_of w) ∙ has) (λ ignored. has)

room-emitted : {limit : ℕ} (emit : EmitOf limit) (w : World) → HasRoom w → HasRoom (emitted emit w)
room-emitted Emits.Enq w has = has
room-emitted emit w has = has

room-replied : (limit : ℕ) (replies : List ℕ) (w : World) → HasRoom w → HasRoom (replied limit replies w)
room-replied limit [] w has = has
room-replied limit (b ∷ replies) w has =
    let step = on_reply {limit = limit} b w.sender in
    room-emitted step.emit (with_sender step.after (record w { replies = replies })) has

room-reply_damaged :
    (limit damage : ℕ) (replies : List ℕ) (w : World) → HasRoom w
    → HasRoom (reply_damaged limit damage replies w)
room-reply_damaged limit damage [] w has = has
room-reply_damaged limit damage (b ∷ replies) w has =
    let step = on_reply {limit = limit} damage w.sender in
    cond_both (damage == ACK || damage == EOT) w (sender_steps step (record w { replies = replies })) HasRoom
    (λ ignored. has) (λ taken. room-emitted step.emit (with_sender step.after (record w { replies = replies })) has)

room-given_up : (phase : Phase) (w : World) → HasRoom w → HasRoom (given_up phase w)
room-given_up Phases.AwaitLine w has = has
room-given_up phase w has = has

room-begins :
    (limit : ℕ) (fault : Option StartFault) (texts : List (List ℕ)) (w : World) → HasRoom w
    → HasRoom (begins limit fault texts w)
room-begins limit (Some fault) texts w has = has
room-begins limit None texts w has = has

pub room_after :
    (limit : ℕ) (event : Event) (w : World) → w.receiver.room ≡ true
    → (after_event limit event w).receiver.room ≡ true
room_after limit (Start texts) w has = room-begins limit (start_fault w.sender texts) texts w has
room_after limit Deliver w has = room-delivered limit w.units w has
room_after limit DeliverNoRoom w has = refl
room_after limit (Damage bytes) w has = room-damaged limit bytes w.units w has
room_after limit Lose w has = room-damaged limit [] w.units w has
room_after limit Reply w has = room-replied limit w.replies w has
room_after limit (DamageReply damage) w has = room-reply_damaged limit damage w.replies w has
room_after limit LoseReply w has = has
room_after limit SenderTimer w has =
    let step = on_sender_timer {limit = limit} w.sender in
    room-emitted step.emit (with_sender step.after (given_up w.sender.phase w)) (room-given_up w.sender.phase w has)
room_after limit ReceiverTimer w has = room-timer w.receiver.is_open w.receiver ∙ has
room_after limit RestartSender w has = has
room_after limit RestartReceiver w has = refl
room_after limit Ready w has = has
room_after limit Busy w has = has
room_after limit Contending w has = has

pub room_runs :
    (limit : ℕ) (events : List Event) (w : World) → w.receiver.room ≡ true
    → (runs limit events w).receiver.room ≡ true
room_runs limit [] w has = has
room_runs limit (event ∷ events) w has =
    room_runs limit events (after_event limit event w) (room_after limit event w has)
