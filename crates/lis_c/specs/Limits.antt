-- The limit on a frame's text: the usual one of 240 bytes, or the long one of 63,993.
use Rattle.std.specs.Prelude.{◌≡◌, ◌≢◌, ℕ, ◌⊎◌, List, [], if◌then◌else◌, ◌==◌, ◌||◌}
use Rattle.lis_frame.specs.Scanner.{Held, StandsFor}
use Rattle.lis_link.specs.Receiver.{ReceiverState, new_receiver}
use Rattle.lis_link.specs.Kept.{Kept}
use Rattle.lis_link.specs.Representation.{IsIn}
use Rattle.lis_c.specs.Status.{BAD_NUMBER, IN_SESSION, OK, OUT_OF_MEMORY}
use Rattle.lis_c.specs.declared.receiving.AnyReceiver.{AnyReceiver}
use Rattle.lis_c.specs.declared.receiving.AnyReceiver.TheVariants as receivers
use Rattle.lis_link.specs.Sender.{SenderState}
use Rattle.lis_link.specs.declared.sender.Phase.{Phase}
use Rattle.lis_link.specs.declared.sender.Phase.TheVariants.{Neutral, AwaitLine, Busy, Contention, AwaitReply}
use Rattle.lis_c.specs.declared.sending.AnySender.{AnySender}
use Rattle.lis_c.specs.declared.sending.AnySender.TheVariants as senders
use Rattle.lis_c.specs.declared.scanning.AnyScanner.{AnyScanner}
use Rattle.lis_c.specs.declared.scanning.AnyScanner.TheVariants as scanners

-- a limit was set: it is one of the two, and memory may run out for the long one
abbrev pub LimitStatus : ℕ → ℕ → Type 0
LimitStatus status limit =
    ((status ≡ BAD_NUMBER) × (limit ≢ 240) × (limit ≢ 63993))
    ⊎ ((status ≡ OK) × (limit ≡ 240))
    ⊎ ((limit ≡ 63993) × ((status ≡ OK) ⊎ (status ≡ OUT_OF_MEMORY)))

-- the limit of a scanner, what it holds, and the text of the frame that was read last, if a signal has no room for it
abbrev pub scanner_limit : AnyScanner → ℕ
scanner_limit (scanners.Usual held) = 240
scanner_limit (scanners.Long long) = 63993

abbrev pub scanner_held : AnyScanner → Held
scanner_held (scanners.Usual held) = held
scanner_held (scanners.Long long) = long.value.scanner

abbrev pub scanner_text : AnyScanner → List ℕ
scanner_text (scanners.Usual held) = []
scanner_text (scanners.Long long) = long.value.text

-- it represents a stream, newest byte first
abbrev pub ScansFor : AnyScanner → List ℕ → Type 0
ScansFor scanner past = StandsFor (scanner_limit scanner) (scanner_held scanner) past

-- a scanner of a limit that has read no byte
pub record NewScanner (limit : ℕ) (scanner : AnyScanner) : Type 0 where
  pub limit_is : scanner_limit scanner ≡ limit
  pub stream_is : ScansFor scanner []
  pub text_is : scanner_text scanner ≡ []

-- the limit of a receiver, what it keeps, and its spare room
abbrev pub receiver_limit : AnyReceiver → ℕ
receiver_limit (receivers.Usual kept) = 240
receiver_limit (receivers.Long long) = 63993

abbrev pub kept_by : AnyReceiver → Kept
kept_by (receivers.Usual kept) = kept
kept_by (receivers.Long long) = long.value

abbrev pub spare_of : AnyReceiver → ℕ
spare_of receiver = (kept_by receiver).spare

-- it is in this state
abbrev pub Receives : AnyReceiver → ReceiverState → Type 0
Receives receiver r = IsIn (receiver_limit receiver) (kept_by receiver) r

-- a new receiver of a limit, which has reserved nothing
pub record NewReceiver (limit : ℕ) (receiver : AnyReceiver) : Type 0 where
  pub limit_is : receiver_limit receiver ≡ limit
  pub state_is : Receives receiver new_receiver
  pub spare_is : spare_of receiver ≡ 0

-- the limit of a sender and its state, and the same sender in another state
abbrev pub sender_limit : AnySender → ℕ
sender_limit (senders.Usual s) = 240
sender_limit (senders.Long s) = 63993

abbrev pub sender_state : AnySender → SenderState
sender_state (senders.Usual s) = s
sender_state (senders.Long s) = s

abbrev pub with_state : AnySender → SenderState → AnySender
with_state (senders.Usual s) new = senders.Usual new
with_state (senders.Long s) new = senders.Long new

-- a sender's limit is set while no session goes on
abbrev pub limit_status : ℕ → ℕ
limit_status limit = if limit == 240 || limit == 63993 then OK else BAD_NUMBER

abbrev pub sender_limit_status : Phase → ℕ → ℕ
sender_limit_status Neutral limit = limit_status limit
sender_limit_status AwaitLine limit = IN_SESSION
sender_limit_status Busy limit = IN_SESSION
sender_limit_status Contention limit = IN_SESSION
sender_limit_status AwaitReply limit = IN_SESSION
