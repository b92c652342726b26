-- One direction of a two-way line, from here to there, as the one-directional link sees it: its world is a function of
-- the two-way one. While the sender waits before it asks again, there is no session of that world; units that the other
-- side can't answer any more, since its line is closed until the next ENQ, are lost there.
use Rattle.std.proofs.Common.{◌≡◌, ℕ, ◌-◌, ◌<◌, ◌≤◌, false, List, [], ◌∷◌, length, take, drop, None}
use Rattle.lis_frame.specs.Frame.{IsContent}
use Rattle.lis_link.specs.declared.sender.Phase.{Phase}
use Rattle.lis_link.specs.declared.sender.Phase.TheVariants.{Neutral, AwaitLine, Busy, Contention, AwaitReply}
use Rattle.lis_link.specs.Sender.{SenderState, started, bad_texts}
use Rattle.lis_world.specs.Unit.{Load, enquiry, ending, one_frame, Travelling}
use Rattle.lis_world.specs.Session.{Session, session_at}
use Rattle.lis_world.specs.World.{World}
use Rattle.lis_world.proofs.Invariant.{Holds}
use Rattle.lis_station.specs.Line.{Item, sent, answered, TwoWay, units_of}
use Rattle.lis_station.specs.inside.Line.{answers_of}

abbrev pub shadow_phase : Phase → Phase
shadow_phase Neutral = Neutral
shadow_phase AwaitLine = AwaitLine
shadow_phase Busy = Neutral
shadow_phase Contention = Neutral
shadow_phase AwaitReply = AwaitReply

-- while the sender waits it hears no reply
abbrev pub heard_replies_in : Phase → List Item → List ℕ
heard_replies_in Neutral items = answers_of items
heard_replies_in AwaitLine items = answers_of items
heard_replies_in Busy items = []
heard_replies_in Contention items = []
heard_replies_in AwaitReply items = answers_of items

abbrev pub dropped_in : Phase → ℕ → List Travelling → ℕ
dropped_in Neutral to_drop units = to_drop
dropped_in AwaitLine to_drop units = to_drop
dropped_in Busy to_drop units = length units
dropped_in Contention to_drop units = length units
dropped_in AwaitReply to_drop units = to_drop

-- the world, with so many units at the front lost
abbrev pub shadow_in : Phase → ℕ → TwoWay → World
shadow_in phase lost t = record {
  sender = record t.near.station.sender { phase = shadow_phase phase };
  receiver = t.far.station.receiver;
  units = drop lost (units_of t.outward);
  replies = heard_replies_in phase t.inward;
  to_drop = dropped_in phase (t.near.to_drop - lost) (drop lost (units_of t.outward));
  current = t.near.current;
  opened = t.far.opened;
  sessions = t.near.sessions;
}

abbrev pub shadow : ℕ → TwoWay → World
shadow lost t = shadow_in t.near.station.sender.phase lost t

-- ---- the order of what comes here

abbrev pub OnlyUnits : List Item → Type 0
OnlyUnits [] = Unit {0}
OnlyUnits (sent unit ∷ items) = OnlyUnits items
OnlyUnits (answered b ∷ items) = ⊥

-- replies, and after them units: these only where no reply can come any more
abbrev pub Tail : Type 0 → List Item → Type 0
Tail quiet [] = Unit {0}
Tail quiet (answered b ∷ items) = Tail quiet items
Tail quiet (sent unit ∷ items) = quiet × OnlyUnits items

-- units, and after them such a list
abbrev pub Ahead : Type 0 → List Item → Type 0
Ahead quiet [] = Unit {0}
Ahead quiet (sent unit ∷ items) = Ahead quiet items
Ahead quiet (answered b ∷ items) = Tail quiet items

abbrev pub InOrder : Phase → Type 0 → List Item → Type 0
InOrder Neutral quiet items = Unit {0}
InOrder AwaitLine quiet items = Ahead quiet items
InOrder Busy quiet items = Unit {0}
InOrder Contention quiet items = Unit {0}
InOrder AwaitReply quiet items = Tail quiet items

abbrev pub IsFrame : ℕ → Load → Type 0
IsFrame limit enquiry = ⊥
IsFrame limit ending = Unit {0}
IsFrame limit (one_frame f) = IsContent limit f

-- no ENQ is on its way, and what is a frame is one of a text
abbrev pub NoEnquiry : ℕ → List Travelling → Type 0
NoEnquiry limit [] = Unit {0}
NoEnquiry limit (u ∷ us) = IsFrame limit u.load × NoEnquiry limit us

-- the other side answers nothing until the next ENQ
abbrev pub IsDeaf : ℕ → TwoWay → Type 0
IsDeaf limit t = (t.far.station.receiver.is_open ≡ false) × NoEnquiry limit (units_of t.outward)

-- what a sender keeps until a frame goes out: it can ask again
pub record AsksWith (limit : ℕ) (phase : Phase) (sender : SenderState) (current : ℕ) (sessions : List Session) :
    Type 0 where
  pub sender_is : sender ≡ record (started limit (session_at current sessions).texts) { phase = phase }
  pub not_refused : bad_texts (session_at current sessions).texts ≡ None
  pub within : current < length sessions

abbrev pub CanAsk : ℕ → Phase → SenderState → ℕ → List Session → Type 0
CanAsk limit Neutral sender current sessions = Unit {0}
CanAsk limit AwaitLine sender current sessions = AsksWith limit AwaitLine sender current sessions
CanAsk limit Busy sender current sessions = AsksWith limit Busy sender current sessions
CanAsk limit Contention sender current sessions = AsksWith limit Contention sender current sessions
CanAsk limit AwaitReply sender current sessions = Unit {0}

-- one direction
pub record HoldsOut (limit : ℕ) (t : TwoWay) : Type 0 where
  pub lost : ℕ
  pub lost_within : lost ≤ length (units_of t.outward)
  pub holds : Holds limit (shadow lost t)
  pub lost_unheard : 0 < lost → t.far.station.receiver.is_open ≡ false
  pub lost_frames : NoEnquiry limit (take lost (units_of t.outward))
  pub in_order : InOrder t.near.station.sender.phase (IsDeaf limit t) t.inward
  pub can_ask : CanAsk limit t.near.station.sender.phase t.near.station.sender t.near.current t.near.sessions
