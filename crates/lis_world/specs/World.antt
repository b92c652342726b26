-- The world: the two ends, the link between them and the sessions.
use Rattle.std.specs.Prelude.{ℕ, zero, suc, List, [], ◌∷◌, ◌++◌}
use Rattle.lis_link.specs.Sender.{SenderState, new_sender}
use Rattle.lis_link.specs.Receiver.{ReceiverState, ReceiverStep, new_receiver, on_byte}
use Rattle.lis_link.specs.declared.receiver.Note.{Note}
use Rattle.lis_link.specs.declared.receiver.Note.TheVariants.{Opened, Accepted}
use Rattle.lis_world.specs.Unit.{Travelling}
use Rattle.lis_world.specs.Session.{Session, changed, takes, with_more}

-- the ends; the units on their way to the receiver and the reply bytes on their way to the sender, each in order;
-- how many units at the front will be answered too late; the session that the sender is in, or was in last;
-- the session whose ENQ last opened the line; and the sessions
pub record World : Type 0 where
  pub sender : SenderState
  pub receiver : ReceiverState
  pub units : List Travelling
  pub replies : List ℕ
  pub to_drop : ℕ
  pub current : ℕ
  pub opened : ℕ
  pub sessions : List Session

abbrev pub new_world : World
new_world = record {
  sender = new_sender;
  receiver = new_receiver;
  units = [];
  replies = [];
  to_drop = 0;
  current = 0;
  opened = 0;
  sessions = [];
}

-- the computer's side while the bytes of one unit come, with the replies that these cause
pub record ComputerState : Type 0 where
  pub receiver : ReceiverState
  pub opened : ℕ
  pub sessions : List Session
  pub replies : List ℕ

abbrev pub computer_state_of : World → ComputerState
computer_state_of w = record { receiver = w.receiver; opened = w.opened; sessions = w.sessions; replies = [] }

-- a step of the receiver while a unit of this session comes, by its note: an ENQ that opens the line makes the session
-- the one that owns it, and what is accepted is booked to the owner
abbrev pub after_note : ℕ → ReceiverStep → Note → ComputerState → ComputerState
after_note session step Opened side = record side { opened = session }
after_note session step (Accepted n) side = record side { sessions = changed side.opened (takes step) side.sessions }
after_note session step note side = side

abbrev pub booked : ℕ → ReceiverStep → ComputerState → ComputerState
booked session step side = after_note session step step.note
    (record side { receiver = step.after; replies = with_more side.replies step.reply })

-- bytes that come while a unit of this session does
abbrev pub hears : ℕ → ℕ → List ℕ → ComputerState → ComputerState
hears limit session [] side = side
hears limit session (b ∷ bytes) side = hears limit session bytes (booked session (on_byte limit b side.receiver) side)

-- the replies on the link, with those that a unit caused: none of them where the unit's reply comes too late
abbrev pub replies_with : ℕ → List ℕ → List ℕ → List ℕ
replies_with zero caused replies = replies ++ caused
replies_with (suc to_drop) caused replies = replies

abbrev pub lowered : ℕ → ℕ
lowered zero = zero
lowered (suc to_drop) = to_drop

-- the front unit has left the link, and this is the computer's side after it
abbrev pub settled : List Travelling → ComputerState → World → World
settled units side w = record w {
  receiver = side.receiver;
  units = units;
  replies = replies_with w.to_drop side.replies w.replies;
  to_drop = lowered w.to_drop;
  opened = side.opened;
  sessions = side.sessions;
}
