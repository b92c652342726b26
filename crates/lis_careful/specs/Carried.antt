-- Sessions on a link whose receiver hears carefully: one is carried through at once if the line isn't open, and after
-- one more ENQ if it is (LIS01-A2, 6.3 to 6.6).
use Rattle.std.specs.Prelude.{◌≡◌, ℕ, suc, true, false, List, [], ◌∷◌, ◌++◌, length, Some}
use Rattle.lis_link.specs.declared.sender.Outcome.TheVariants.{TimedOut}
use Rattle.lis_world.specs.declared.event.Event.{Event}
use Rattle.lis_world.specs.declared.event.Event.TheVariants.{Start, Deliver, SenderTimer}
use Rattle.lis_world.specs.Session.{new_session, session_at}
use Rattle.lis_world.specs.World.{World}
use Rattle.lis_world.specs.Progress.{Round, IsCalm, AreSendable, AreEnough, session_events, IsCarried}
use Rattle.lis_careful.specs.World.{careful_world}

-- after any events, a session of sendable texts with enough rounds is carried through, if the line isn't open
abbrev pub CarriesThroughCarefully : ℕ → Type 0
CarriesThroughCarefully limit =
    (events : List Event) (texts : List (List ℕ)) (rounds : List Round)
    → IsCalm (careful_world limit events)
    → (careful_world limit events).receiver.is_open ≡ false
    → AreSendable (careful_world limit events) texts
    → AreEnough limit texts rounds
    → IsCarried limit texts (careful_world limit events)
    (careful_world limit (events ++ session_events texts rounds))

-- a session that starts where it is: its ENQ gets no reply, the sender's timer runs out, and its EOT comes
abbrev pub unanswered_events : List (List ℕ) → List Event
unanswered_events texts = Start texts ∷ Deliver ∷ SenderTimer ∷ Deliver ∷ []

-- it timed out, and nothing of it was sent; the line is calm again, and not open
pub record IsUnanswered (texts : List (List ℕ)) (before after : World) : Type 0 where
  pub one_more : length after.sessions ≡ suc (length before.sessions)
  pub session_is : session_at (length before.sessions) after.sessions
      ≡ record (new_session texts) { outcome = Some TimedOut }
  pub calm : IsCalm after
  pub closed : after.receiver.is_open ≡ false

-- so the same session, started once more, is carried through after that ENQ
abbrev pub CarriesAfterOneMore : ℕ → Type 0
CarriesAfterOneMore limit =
    (events : List Event) (texts : List (List ℕ)) (rounds : List Round)
    → IsCalm (careful_world limit events)
    → (careful_world limit events).receiver.is_open ≡ true
    → AreSendable (careful_world limit events) texts
    → AreEnough limit texts rounds
    → IsUnanswered texts (careful_world limit events) (careful_world limit (events ++ unanswered_events texts))
    × IsCarried limit texts (careful_world limit (events ++ unanswered_events texts))
    (careful_world limit ((events ++ unanswered_events texts) ++ session_events texts rounds))
