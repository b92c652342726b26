-- The world whose receiver hears carefully.
use Rattle.std.specs.Prelude.{ℕ, Bool, true, false, List, [], ◌∷◌, Option, None, Some, if◌then◌else◌}
use Rattle.std.specs.List.{fold}
use Rattle.std.specs.Option.{option_map}
use Rattle.lis_frame.specs.declared.scanner.SignalOf.{SignalOf}
use Rattle.lis_frame.specs.declared.scanner.SignalOf.TheVariants.{Bad}
use Rattle.lis_frame.specs.Stream.{open_body, signal_after}
use Rattle.lis_link.specs.Receiver.{ReceiverState}
use Rattle.lis_careful.specs.Careful.{ends_session, heard_as, on_byte_carefully}
use Rattle.lis_world.specs.declared.event.Event.{Event}
use Rattle.lis_world.specs.declared.event.Event.TheVariants.{Deliver, DeliverNoRoom, Damage}
use Rattle.lis_world.specs.Unit.{Load, one_frame, Travelling, load_bytes}
use Rattle.lis_world.specs.World.{World, ComputerState, new_world, computer_state_of, booked, settled}
use Rattle.lis_world.specs.Steps.{after_event, room_at}

-- bytes that come while a unit of this session does
abbrev pub hears_carefully : ℕ → ℕ → List ℕ → ComputerState → ComputerState
hears_carefully limit session [] side = side
hears_carefully limit session (b ∷ bytes) side =
    hears_carefully limit session bytes (booked session (on_byte_carefully limit b side.receiver) side)

-- what a careful receiver hears of a byte: that it ends the session, or a signal
pub data CarefulSignal (limit : ℕ) : Type 0 where
  ends : CarefulSignal limit
  gives : SignalOf limit → CarefulSignal limit

abbrev pub careful_signal_by : {limit : ℕ} → Bool → Option (SignalOf limit) → Option (CarefulSignal limit)
careful_signal_by true signal = Some ends
careful_signal_by false signal = option_map gives signal

abbrev pub careful_signal : (limit : ℕ) → ReceiverState → ℕ → Option (CarefulSignal limit)
careful_signal limit r b =
    careful_signal_by (ends_session r b) (signal_after limit r.past (heard_as (open_body r.past) b))

abbrev pub with_heard_first : {limit : ℕ} → Option (CarefulSignal limit) → List (CarefulSignal limit)
    → List (CarefulSignal limit)
with_heard_first None signals = signals
with_heard_first (Some signal) signals = signal ∷ signals

-- what it hears of bytes, in their order
abbrev pub careful_signals : (limit : ℕ) → List ℕ → ReceiverState → List (CarefulSignal limit)
careful_signals limit [] r = []
careful_signals limit (b ∷ bytes) r =
    with_heard_first (careful_signal limit r b) (careful_signals limit bytes (on_byte_carefully limit b r).after)

-- damage is noticed if what is heard of it is nothing, the end of the session or, of a frame, one bad frame
abbrev pub is_noticed_carefully : {limit : ℕ} → Load → List (CarefulSignal limit) → Bool
is_noticed_carefully load [] = true
is_noticed_carefully load (ends ∷ []) = true
is_noticed_carefully (one_frame frame) (gives (Bad fault) ∷ []) = true
is_noticed_carefully load signals = false

-- the front unit reaches the receiver
abbrev pub delivered_carefully : ℕ → List Travelling → World → World
delivered_carefully limit [] w = w
delivered_carefully limit (front ∷ units) w =
    settled units (hears_carefully limit front.session (load_bytes front.load) (computer_state_of w)) w

-- these bytes come in the place of the front unit
abbrev pub damaged_carefully : ℕ → List ℕ → List Travelling → World → World
damaged_carefully limit bytes [] w = w
damaged_carefully limit bytes (front ∷ units) w =
    if is_noticed_carefully front.load (careful_signals limit bytes w.receiver) then
    settled units (hears_carefully limit front.session bytes (computer_state_of w)) w
    else w

-- the receiver hears carefully, and any other event does what it does
abbrev pub comes_carefully : ℕ → Event → World → World → World
comes_carefully limit Deliver w other = delivered_carefully limit w.units w
comes_carefully limit DeliverNoRoom w other = room_at true (delivered_carefully limit w.units (room_at false w))
comes_carefully limit (Damage bytes) w other = damaged_carefully limit bytes w.units w
comes_carefully limit event w other = other

abbrev pub after_event_carefully : ℕ → Event → World → World
after_event_carefully limit event w = comes_carefully limit event w (after_event limit event w)

-- a list of events, in order, from the first on
abbrev pub careful_world : ℕ → List Event → World
careful_world limit events = fold (λ w event. after_event_carefully limit event w) new_world events
