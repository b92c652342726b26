-- What the program that plays events keeps.
use Rattle.std.specs.Prelude.{◌≡◌, ⊤, ℕ, Bool, true, false, List, length, [], ◌∷◌, ◌++◌, Option, Some}
use Rattle.std.specs.List.{fold}
use Rattle.lis_frame.specs.declared.scanner.SignalOf.{SignalOf}
use Rattle.lis_frame.specs.declared.scanner.SignalOf.TheVariants.{Enq, Eot, Good, Bad}
use Rattle.lis_frame.specs.Frame.{FrameContent}
use Rattle.lis_frame.specs.Scanner.{Held, StandsFor}
use Rattle.lis_link.specs.Kept.{Kept}
use Rattle.lis_link.specs.declared.receiver.Note.TheVariants.{Accepted}
use Rattle.lis_link.specs.Receiver.{ReceiverState, ReceiverStep}
use Rattle.lis_link.specs.Representation.{IsIn}
use Rattle.lis_world.specs.Session.{Session, with_more, changed, sends}
use Rattle.lis_link.specs.declared.sender.Outcome.{Outcome}
use Rattle.lis_link.specs.declared.sender.Phase.{Phase}
use Rattle.lis_link.specs.declared.sender.Phase.TheVariants as Phases
use Rattle.lis_link.specs.Sender.{SenderState}
use Rattle.lis_world.specs.Unit.{Load, Travelling, one_frame}
use Rattle.lis_world.specs.World.{World, ComputerState}
use Rattle.lis_world.specs.Steps.{is_noticed, after_event}
use Rattle.lis_world.specs.Late.{after_late_event}
use Rattle.lis_world.specs.declared.event.Event.{Event}
use Rattle.lis_world.specs.declared.event.LateEvent.{LateEvent}
use Rattle.lis_frame.specs.Stream.{signals_after}

-- the computer's side, with what the receiver keeps
pub record KeptComputerState : Type 0 where
  pub receiver : Kept
  pub opened : ℕ
  pub sessions : List Session
  pub replies : List ℕ

-- with a state that the receiver is in
abbrev pub computer_state_at : KeptComputerState → ReceiverState → ComputerState
computer_state_at kept r = record {
  receiver = r;
  opened = kept.opened;
  sessions = kept.sessions;
  replies = kept.replies;
}

-- it is this one
pub record IsComputerState (limit : ℕ) (kept : KeptComputerState) (computer_state : ComputerState) : Type 0 where
  pub receiver_is : IsIn limit kept.receiver computer_state.receiver
  pub computer_state_is : computer_state_at kept computer_state.receiver ≡ computer_state

-- of what is heard, no frame but the one that a unit is
abbrev pub IsOfLoad : {limit : ℕ} → Load → SignalOf limit → Type 0
IsOfLoad load Enq = ⊤
IsOfLoad load Eot = ⊤
IsOfLoad load (Good frame) = load ≡ one_frame frame
IsOfLoad load (Bad fault) = ⊤

abbrev pub OnlyLoad : {limit : ℕ} → Load → List (SignalOf limit) → Type 0
OnlyLoad load [] = ⊤
OnlyLoad load (signal ∷ signals) = IsOfLoad load signal × OnlyLoad load signals

-- what is accepted is that frame
pub record IsLoad (load : Load) (step : ReceiverStep) : Type 0 where
  pub frame : FrameContent
  pub load_is : load ≡ one_frame frame
  pub taken_is : step.taken ≡ Some frame

abbrev pub TakesLoad : Load → ReceiverStep → Type 0
TakesLoad load step = (number : ℕ) → step.note ≡ Accepted number → IsLoad load step

-- the session with a frame that was accepted, and the text delivered with it
abbrev pub takes_frame : FrameContent → Option (List ℕ) → Session → Session
takes_frame frame message x = record x { accepted = x.accepted ++ frame ∷ []; handed = with_more x.handed message }

-- the session with the sender's count and outcome
abbrev pub follows_with : ℕ → Option Outcome → Session → Session
follows_with acknowledged outcome x = record x { acknowledged = acknowledged; outcome = outcome }

-- all that the program keeps
pub record KeptWorld : Type 0 where
  pub sender : SenderState
  pub computer_state : KeptComputerState
  pub units : List Travelling
  pub replies : List ℕ
  pub to_drop : ℕ
  pub current : ℕ

-- with a state that the receiver is in
abbrev pub world_at : KeptWorld → ReceiverState → World
world_at kept r =
    record {
      sender = kept.sender;
      receiver = r;
      units = kept.units;
      replies = kept.replies;
      to_drop = kept.to_drop;
      current = kept.current;
      opened = kept.computer_state.opened;
      sessions = kept.computer_state.sessions;
    }

-- it is this one
pub record IsWorld (limit : ℕ) (kept : KeptWorld) (w : World) : Type 0 where
  pub receiver_is : IsIn limit kept.computer_state.receiver w.receiver
  pub world_is : world_at kept w.receiver ≡ w

-- whether damage is noticed, where one bad frame was heard of it or none
abbrev pub still_noticed : {limit : ℕ} → Bool → Load → List (SignalOf limit) → Bool
still_noticed false load signals = is_noticed load signals
still_noticed true load [] = true
still_noticed true load (signal ∷ signals) = false

-- while damage is heard
pub record IsNoticing (limit : ℕ) (load : Load) (is_bad : Bool) (scanner : Held) (left : List ℕ) (goal : Bool) :
    Type 0 where
  pub past : List ℕ
  pub stream : StandsFor limit scanner past
  pub goes_on : still_noticed is_bad load (signals_after limit past left) ≡ goal

-- whether there is a unit, and damage in its place is noticed
abbrev pub front_noticed : List Travelling → (Load → Bool) → Bool
front_noticed [] notices = false
front_noticed (front ∷ units) notices = notices front.load

-- parts of an event, of what the program keeps
abbrev pub kept_forgotten : KeptWorld → KeptWorld
kept_forgotten kept = record kept { replies = []; to_drop = length kept.units }

abbrev pub kept_given_up : Phase → KeptWorld → KeptWorld
kept_given_up Phases.Neutral kept = kept
kept_given_up Phases.AwaitLine kept = kept_forgotten kept
kept_given_up Phases.Busy kept = kept
kept_given_up Phases.Contention kept = kept
kept_given_up Phases.AwaitReply kept = kept_forgotten kept

abbrev pub kept_following : KeptWorld → KeptWorld
kept_following kept =
    record kept {
      computer_state = record kept.computer_state {
        sessions = changed kept.current (follows_with kept.sender.acknowledged
            kept.sender.outcome) kept.computer_state.sessions;
      };
    }

abbrev pub kept_with : Load → KeptWorld → KeptWorld
kept_with load kept = record kept { units = kept.units ++ record { session = kept.current; load = load } ∷ [] }

abbrev pub kept_sending : FrameContent → KeptWorld → KeptWorld
kept_sending frame kept =
    kept_with (one_frame frame) (record kept {
      computer_state = record kept.computer_state {
        sessions = changed kept.current (sends frame)
            kept.computer_state.sessions;
      };
    })

-- what happens, one by one, in order
abbrev pub run_by : {E : Type 0} → (E → World → World) → List E → World → World
run_by after events w = fold (λ v event. after event v) w events

abbrev pub runs : ℕ → List Event → World → World
runs limit events w = run_by (after_event limit) events w

abbrev pub runs_late : (World → Bool) → ℕ → List LateEvent → World → World
runs_late may_start limit events w = run_by (after_late_event may_start limit) events w

-- while events are played: those that are left, played from here, lead to the same world
pub record IsPlaying {E : Type 0} (after : E → World → World) (limit : ℕ) (kept : KeptWorld) (left : List E)
    (goal : World) : Type 0 where
  pub state : ReceiverState
  pub is_in : IsIn limit kept.computer_state.receiver state
  pub goes_on : run_by after left (world_at kept state) ≡ goal
