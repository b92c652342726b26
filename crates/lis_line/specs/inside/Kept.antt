-- What the program that plays events on a line keeps.
use Rattle.std.specs.Prelude.{◌≡◌, ⊤, ℕ, zero, Bool, true, false, List, [], ◌∷◌, ◌++◌, length, map, Option, None, Some}
use Rattle.std.specs.List.{fold}
use Rattle.lis_frame.specs.Frame.{FrameContent}
use Rattle.lis_frame.specs.declared.scanner.SignalOf.{SignalOf}
use Rattle.lis_frame.specs.declared.scanner.SignalOf.TheVariants.{Good}
use Rattle.lis_link.specs.declared.receiver.Note.{Note}
use Rattle.lis_link.specs.declared.receiver.Note.TheVariants.{Opened, Accepted}
use Rattle.lis_link.specs.Receiver.{ReceiverState, ReceiverStep}
use Rattle.lis_link.specs.Representation.{IsIn}
use Rattle.lis_world.specs.Unit.{Load, enquiry, ending, one_frame}
use Rattle.lis_world.specs.Session.{Session, new_session, changed}
use Rattle.lis_world.specs.World.{lowered}
use Rattle.lis_world.specs.inside.Playing.{follows_with, takes_frame}
use Rattle.lis_station.specs.Representation.{KeptStation, station_at}
use Rattle.lis_station.specs.Line.{Item, sent, answered, End, TwoWay, units_of, comes, is_noise, LineEvent}
use Rattle.lis_station.specs.Line.{after_line_event}
use Rattle.lis_line.specs.declared.item.CarriedOf.{CarriedOf}
use Rattle.lis_line.specs.declared.item.CarriedOf.TheVariants as Carried

abbrev pub item_of : {limit : ℕ} → CarriedOf limit → Item
item_of (Carried.Enquiry session) = sent (record { session = session; load = enquiry })
item_of (Carried.Ending session) = sent (record { session = session; load = ending })
item_of (Carried.Frame session frame) = sent (record { session = session; load = one_frame frame })
item_of (Carried.Reply b) = answered b

abbrev pub is_unit : Item → Bool
is_unit (sent unit) = true
is_unit (answered b) = false

-- what may come of it to a receiver: a reply is no frame, as little as ENQ
abbrev pub load_in : Item → Load
load_in (sent unit) = unit.load
load_in (answered b) = enquiry

-- an end, with what its station keeps
pub record KeptEnd : Type 0 where
  pub station : KeptStation
  pub to_drop : ℕ
  pub current : ℕ
  pub opened : ℕ
  pub sessions : List Session

-- with a state that its receiver is in
abbrev pub end_at : KeptEnd → ReceiverState → End
end_at kept r = record {
  station = station_at kept.station r;
  to_drop = kept.to_drop;
  current = kept.current;
  opened = kept.opened;
  sessions = kept.sessions;
}

-- all that the program keeps
pub record KeptLine : Type 0 where
  pub near : KeptEnd
  pub far : KeptEnd
  pub outward : List Item
  pub inward : List Item

-- with states that the receivers are in
abbrev pub line_at : KeptLine → ReceiverState → ReceiverState → TwoWay
line_at kept r q = record {
  near = end_at kept.near r;
  far = end_at kept.far q;
  outward = kept.outward;
  inward = kept.inward;
}

-- it is this one
pub record IsLine (limit : ℕ) (kept : KeptLine) (t : TwoWay) : Type 0 where
  pub near_is : IsIn limit kept.near.station.receiver t.near.station.receiver
  pub far_is : IsIn limit kept.far.station.receiver t.far.station.receiver
  pub line_is : line_at kept t.near.station.receiver t.far.station.receiver ≡ t

-- the good frame that a byte ends
abbrev pub good_frame : {limit : ℕ} → Option (SignalOf limit) → Option FrameContent
good_frame (Some (Good frame)) = Some frame
good_frame signal = None

-- the frame is what a step takes, if it takes one
abbrev pub TakesIt : Note → Option FrameContent → ReceiverStep → Type 0
TakesIt (Accepted number) (Some frame) step = step.taken ≡ Some frame
TakesIt (Accepted number) None step = ⊥
TakesIt note frame step = ⊤

-- whether there is something on its way, and damage in its place is noticed
abbrev pub front_noise : ℕ → Bool → List Item → List ℕ → ReceiverState → Bool
front_noise limit awaits [] bytes r = false
front_noise limit awaits (front ∷ items) bytes r = is_noise limit awaits front bytes r

-- parts of an event, of what the program keeps
abbrev pub kept_turned : KeptLine → KeptLine
kept_turned kept = record { near = kept.far; far = kept.near; outward = kept.inward; inward = kept.outward }

abbrev pub kept_forgotten : KeptLine → KeptLine
kept_forgotten kept = record kept {
  near = record kept.near { to_drop = length (units_of kept.outward) };
  inward = map sent (units_of kept.inward);
}

abbrev pub kept_out : Item → KeptLine → KeptLine
kept_out item kept = record kept { outward = kept.outward ++ item ∷ [] }

abbrev pub kept_begun : List (List ℕ) → KeptLine → KeptLine
kept_begun texts kept = kept_out (sent (record { session = length kept.near.sessions; load = enquiry })) (record kept {
  near = record kept.near {
    current = length kept.near.sessions;
    sessions = kept.near.sessions ++ new_session texts ∷ [];
  };
})

-- the session of an ENQ owns what comes after it
abbrev pub kept_opened : Item → KeptLine → KeptLine
kept_opened (sent unit) kept = record kept { near = record kept.near { opened = unit.session } }
kept_opened (answered b) kept = kept

-- what was noted while an item came
abbrev pub kept_noted : Item → Note → Option FrameContent → Option (List ℕ) → KeptLine → KeptLine
kept_noted item Opened frame message kept = kept_opened item kept
kept_noted item (Accepted number) (Some frame) message kept = record kept {
  far = record kept.far { sessions = changed kept.near.opened (takes_frame frame message) kept.far.sessions };
}
kept_noted item note frame message kept = kept

abbrev pub kept_answered : ℕ → Option ℕ → KeptLine → KeptLine
kept_answered zero (Some b) kept = kept_out (answered b) kept
kept_answered to_drop reply kept = kept

abbrev pub kept_left : Item → KeptLine → KeptLine
kept_left (sent unit) kept = record kept { far = record kept.far { to_drop = lowered kept.far.to_drop } }
kept_left (answered b) kept = kept

abbrev pub kept_following : KeptEnd → KeptEnd
kept_following kept = record kept {
  sessions = changed kept.current (follows_with kept.station.sender.acknowledged kept.station.sender.outcome)
      kept.sessions;
}

-- while bytes come: those that are left, from here, lead to the same line
pub record IsComing (limit : ℕ) (item : Item) (kept : KeptLine) (left : List ℕ) (goal : TwoWay) : Type 0 where
  pub near : ReceiverState
  pub far : ReceiverState
  pub near_is : IsIn limit kept.near.station.receiver near
  pub far_is : IsIn limit kept.far.station.receiver far
  pub goes_on : comes limit item left (line_at kept near far) ≡ goal

-- while events are played: those that are left, from here, lead to the same line
abbrev pub runs : ℕ → List LineEvent → TwoWay → TwoWay
runs limit events t = fold (λ t event. after_line_event limit event t) t events

pub record IsPlaying (limit : ℕ) (kept : KeptLine) (left : List LineEvent) (goal : TwoWay) : Type 0 where
  pub near : ReceiverState
  pub far : ReceiverState
  pub near_is : IsIn limit kept.near.station.receiver near
  pub far_is : IsIn limit kept.far.station.receiver far
  pub goes_on : runs limit left (line_at kept near far) ≡ goal
