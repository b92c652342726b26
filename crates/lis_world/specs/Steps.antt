-- What each event does to the world; one that isn't allowed does nothing.
use Rattle.std.specs.Prelude.{ℕ, Bool, true, false, List, [], ◌∷◌, ◌++◌, length, drop, Option, None, Some}
use Rattle.std.specs.Prelude.{if◌then◌else◌, ◌==◌, ◌||◌}
use Rattle.std.specs.List.{fold}
use Rattle.lis_text.specs.Control.{EOT, ACK}
use Rattle.lis_frame.specs.declared.scanner.SignalOf.{SignalOf}
use Rattle.lis_frame.specs.declared.scanner.SignalOf.TheVariants.{Bad}
use Rattle.lis_frame.specs.Stream.{signals_after}
use Rattle.lis_link.specs.declared.sender.Phase.{Phase}
use Rattle.lis_link.specs.declared.sender.Phase.TheVariants as Phases
use Rattle.lis_link.specs.declared.sender.EmitOf.{EmitOf}
use Rattle.lis_link.specs.declared.sender.EmitOf.TheVariants as Emits
use Rattle.lis_link.specs.declared.sender.StartFault.{StartFault}
use Rattle.lis_text.specs.declared.readiness.Readiness.TheVariants as Readinesses
use Rattle.lis_link.specs.Sender.{SenderState, SenderStep, on_reply, on_sender_timer, sender_restarted, start_fault}
use Rattle.lis_link.specs.Sender.{started}
use Rattle.lis_link.specs.Receiver.{on_receiver_timer, receiver_restarted, with_readiness, with_room}
use Rattle.lis_world.specs.declared.event.Event.{Event}
use Rattle.lis_world.specs.declared.event.Event.TheVariants.{Start, Deliver, DeliverNoRoom, Damage, Lose, Reply}
use Rattle.lis_world.specs.declared.event.Event.TheVariants.{DamageReply, LoseReply, SenderTimer, ReceiverTimer}
use Rattle.lis_world.specs.declared.event.Event.TheVariants.{RestartSender, RestartReceiver, Ready, Busy, Contending}
use Rattle.lis_world.specs.Unit.{Load, enquiry, ending, one_frame, Travelling, load_bytes}
use Rattle.lis_world.specs.Session.{new_session, changed, follows, sends_frame}
use Rattle.lis_world.specs.World.{World, new_world, computer_state_of, hears, settled}

-- a unit of the present session goes on the link, after what is there
abbrev pub put_on_link : Load → World → World
put_on_link load w = record w { units = w.units ++ record { session = w.current; load = load } ∷ [] }

abbrev pub emitted : {limit : ℕ} → EmitOf limit → World → World
emitted Emits.Enq w = put_on_link enquiry w
emitted Emits.Eot w = put_on_link ending w
emitted (Emits.Frame frame) w = put_on_link (one_frame frame)
    (record w { sessions = changed w.current (sends_frame frame) w.sessions })
emitted emit w = w

-- the sender's new state, booked to its session
abbrev pub with_sender : SenderState → World → World
with_sender sender w = record w { sender = sender; sessions = changed w.current (follows sender) w.sessions }

abbrev pub sender_steps : {limit : ℕ} → SenderStep limit → World → World
sender_steps step w = emitted step.emit (with_sender step.after w)

-- a start that is not rejected begins a session
abbrev pub begins : ℕ → Option StartFault → List (List ℕ) → World → World
begins limit (Some fault) texts w = w
begins limit None texts w =
    put_on_link enquiry (record w {
      sender = started limit texts;
      current = length w.sessions;
      sessions = w.sessions ++ new_session texts ∷ [];
    })

-- the front unit reaches the receiver
abbrev pub delivered : ℕ → List Travelling → World → World
delivered limit [] w = w
delivered limit (front ∷ units) w = settled units (hears limit front.session (load_bytes front.load)
    (computer_state_of w)) w

-- whether the receiver has room
abbrev pub room_at : Bool → World → World
room_at room w = record w { receiver = with_room room w.receiver }

-- damage is noticed if what is heard of it is nothing or, of a frame, one bad frame
abbrev pub is_noticed : {limit : ℕ} → Load → List (SignalOf limit) → Bool
is_noticed load [] = true
is_noticed (one_frame frame) (Bad fault ∷ []) = true
is_noticed load signals = false

-- these bytes come in the place of the front unit; none do if it is lost
abbrev pub damaged : ℕ → List ℕ → List Travelling → World → World
damaged limit bytes [] w = w
damaged limit bytes (front ∷ units) w =
    if is_noticed front.load (signals_after limit w.receiver.past bytes) then
    settled units (hears limit front.session bytes (computer_state_of w)) w
    else w

-- the front reply reaches the sender
abbrev pub replied : ℕ → List ℕ → World → World
replied limit [] w = w
replied limit (b ∷ replies) w = sender_steps {limit = limit} (on_reply b w.sender) (record w { replies = replies })

-- another byte, which is neither ACK nor EOT, comes in the place of the front reply
abbrev pub reply_damaged : ℕ → ℕ → List ℕ → World → World
reply_damaged limit damage [] w = w
reply_damaged limit damage (b ∷ replies) w =
    if damage == ACK || damage == EOT then w else replied limit (damage ∷ replies) w

-- no reply to a unit that is on its way reaches the sender in time
abbrev pub forgotten : World → World
forgotten w = record w { replies = []; to_drop = length w.units }

-- the timer of a sender that awaits a reply
abbrev pub given_up : Phase → World → World
given_up Phases.AwaitLine w = forgotten w
given_up Phases.AwaitReply w = forgotten w
given_up phase w = w

-- one event
abbrev pub after_event : ℕ → Event → World → World
after_event limit (Start texts) w = begins limit (start_fault w.sender texts) texts w
after_event limit Deliver w = delivered limit w.units w
after_event limit DeliverNoRoom w = room_at true (delivered limit w.units (room_at false w))
after_event limit (Damage bytes) w = damaged limit bytes w.units w
after_event limit Lose w = damaged limit [] w.units w
after_event limit Reply w = replied limit w.replies w
after_event limit (DamageReply damage) w = reply_damaged limit damage w.replies w
after_event limit LoseReply w = record w { replies = drop 1 w.replies }
after_event limit SenderTimer w = sender_steps {limit = limit} (on_sender_timer w.sender) (given_up w.sender.phase w)
after_event limit ReceiverTimer w = record w { receiver = (on_receiver_timer w.receiver).after }
after_event limit RestartSender w = with_sender (sender_restarted w.sender) (forgotten w)
after_event limit RestartReceiver w = record w { receiver = receiver_restarted w.receiver }
after_event limit Ready w = record w { receiver = with_readiness Readinesses.Ready w.receiver }
after_event limit Busy w = record w { receiver = with_readiness Readinesses.Busy w.receiver }
after_event limit Contending w = record w { receiver = with_readiness Readinesses.Contending w.receiver }

-- a list of events, in order, from the first on
abbrev pub world : ℕ → List Event → World
world limit events = fold (λ w event. after_event limit event w) new_world events
