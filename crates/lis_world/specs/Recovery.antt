-- What a loss on the line gives, and that no state of the two ends blocks the line for good (LIS01-A2, 6.2 to 6.6).
use Rattle.std.specs.Prelude.{◌≡◌, ◌⊎◌, ℕ, ◌≤◌, Bool, true, false, List, [], ◌∷◌, ◌++◌, length, map, None, Some, All}
use Rattle.lis_text.specs.LinkText.{most_texts}
use Rattle.lis_frame.specs.Stream.{signals_after}
use Rattle.lis_link.specs.declared.sender.Phase.TheVariants.{AwaitLine, AwaitReply}
use Rattle.lis_link.specs.declared.sender.Outcome.TheVariants.{TimedOut}
use Rattle.lis_link.specs.Sender.{bad_texts, finished_with}
use Rattle.lis_world.specs.declared.event.Event.{Event}
use Rattle.lis_world.specs.declared.event.Event.TheVariants.{Deliver, DeliverNoRoom, Damage, Lose, LoseReply}
use Rattle.lis_world.specs.declared.event.Event.TheVariants.{SenderTimer, RestartSender, Ready}
use Rattle.lis_world.specs.Unit.{ending, Travelling}
use Rattle.lis_world.specs.Session.{session_at}
use Rattle.lis_world.specs.World.{World}
use Rattle.lis_world.specs.Steps.{world}
use Rattle.lis_world.specs.Progress.{Round, AreEnough, session_events, quiet_events, IsCarried}

-- texts that a sender without a session takes
pub record AreTexts (texts : List (List ℕ)) : Type 0 where
  pub not_refused : bad_texts texts ≡ None
  pub few : length texts ≤ most_texts

-- a session of texts that a sender takes is carried through after these events, if it has enough rounds
abbrev pub CarriesNext : ℕ → List Event → Type 0
CarriesNext limit events =
    (texts : List (List ℕ)) (rounds : List Round)
    → AreTexts texts
    → AreEnough limit texts rounds
    → IsCarried limit texts (world limit events) (world limit (events ++ session_events texts rounds))

-- ---- the line empties

-- how a unit leaves the link: it comes, or comes while there is no room, or is lost
pub data Leaving : Type 0 where
  comes : Leaving
  comes_without_room : Leaving
  is_lost : Leaving

abbrev pub leaving_event : Leaving → Event
leaving_event comes = Deliver
leaving_event comes_without_room = DeliverNoRoom
leaving_event is_lost = Lose

-- units leave the link, and then the receiver is ready
abbrev pub emptying_events : List Leaving → List Event
emptying_events leavings = map leaving_event leavings ++ Ready ∷ []

-- what brings a sender to rest: its restart, or two timers
pub data Rest : Type 0 where
  restart : Rest
  two_timers : Rest

abbrev pub rest_events : Rest → List Event
rest_events restart = RestartSender ∷ []
rest_events two_timers = SenderTimer ∷ SenderTimer ∷ []

-- After whatever events, once the sender was brought to rest and each unit on its way has left the link, a session is
-- carried through.
abbrev pub Recovers : ℕ → Type 0
Recovers limit =
    (events : List Event) (rest : Rest) (leavings : List Leaving)
    → length (world limit (events ++ rest_events rest)).units ≤ length leavings
    → CarriesNext limit ((events ++ rest_events rest) ++ emptying_events leavings)

-- so is an undisturbed one
abbrev pub RecoversQuietly : ℕ → Type 0
RecoversQuietly limit =
    (events : List Event) (rest : Rest) (leavings : List Leaving) (texts : List (List ℕ))
    → length (world limit (events ++ rest_events rest)).units ≤ length leavings
    → AreTexts texts
    → IsCarried limit texts (world limit ((events ++ rest_events rest) ++ emptying_events leavings))
    (world limit (((events ++ rest_events rest) ++ emptying_events leavings) ++ quiet_events limit texts))

-- ---- something is lost

-- an ENQ or a frame is lost, or comes as bytes that give no signal, or its reply is lost
pub data Loss : Type 0 where
  unit_is_lost : Loss
  unit_is_unheard : List ℕ → Loss
  reply_is_lost : Loss

abbrev pub loss_events : Loss → List Event
loss_events unit_is_lost = Lose ∷ []
loss_events (unit_is_unheard bytes) = Damage bytes ∷ []
loss_events reply_is_lost = Deliver ∷ LoseReply ∷ []

abbrev pub IsUnheard : ℕ → World → Loss → Type 0
IsUnheard limit w (unit_is_unheard bytes) = signals_after limit w.receiver.past bytes ≡ []
IsUnheard limit w loss = Unit {0}

-- the sender awaits the reply to the one unit on the link
pub record IsAwaitingOne (w : World) : Type 0 where
  pub awaits : (w.sender.phase ≡ AwaitLine) ⊎ (w.sender.phase ≡ AwaitReply)
  pub unit : Travelling
  pub alone : w.units ≡ unit ∷ []

-- an event that is no timer and no restart of the sender
abbrev pub is_other : Event → Bool
is_other SenderTimer = false
is_other RestartSender = false
is_other event = true

-- the sender's session ended at its timer: with the frames that were sent and acknowledged before, and its EOT is all
-- that is on the link
pub record IsTimedOut (before after : World) : Type 0 where
  pub sender_is : after.sender ≡ finished_with TimedOut before.sender
  pub as_many : length after.sessions ≡ length before.sessions
  pub texts_same : (session_at before.current after.sessions).texts ≡ (session_at before.current before.sessions).texts
  pub sent_same : (session_at before.current after.sessions).sent ≡ (session_at before.current before.sessions).sent
  pub acknowledged_same :
      (session_at before.current after.sessions).acknowledged ≡ (session_at before.current before.sessions).acknowledged
  pub outcome_is : (session_at before.current after.sessions).outcome ≡ Some TimedOut
  pub units_are : after.units ≡ record { session = before.current; load = ending } ∷ []
  pub no_reply : after.replies ≡ []

-- the loss, whatever else happens until the sender's timer, and the timer
abbrev pub lost_events : Loss → List Event → List Event
lost_events loss others = loss_events loss ++ (others ++ SenderTimer ∷ [])

-- Where an ENQ, a frame or the reply to one is lost, nothing but the sender's timer or its restart ends the wait. The
-- timer ends the session. Once its EOT has left the link too, a later session is carried through.
abbrev pub OvercomesLoss : ℕ → Type 0
OvercomesLoss limit =
    (events others : List Event) (loss : Loss)
    → IsAwaitingOne (world limit events)
    → IsUnheard limit (world limit events) loss
    → All (λ event. is_other event ≡ true) others
    → IsTimedOut (world limit events) (world limit (events ++ lost_events loss others))
    × ((leaving : Leaving) → CarriesNext limit ((events ++ lost_events loss others) ++ emptying_events (leaving ∷ [])))
