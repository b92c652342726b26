-- When a session is carried through: enough undisturbed rounds, and never six disturbed ones in a row.
use Rattle.std.specs.Prelude.{◌≡◌, ◌≢◌, ℕ, suc, ◌<◌, ◌≤◌, false, List, [], ◌∷◌, ◌++◌, length, replicate, None, Some}
use Rattle.std.specs.Prelude.{All}
use Rattle.std.specs.List.{flat_map}
use Rattle.lis_text.specs.Control.{STX, EOT, ACK, LF}
use Rattle.lis_frame.specs.declared.frame.FrameFault.{FrameFault}
use Rattle.lis_text.specs.LinkText.{most_texts}
use Rattle.lis_frame.specs.Pieces.{session_frames}
use Rattle.lis_frame.specs.Stream.{is_mark}
use Rattle.lis_frame.specs.FrameBody.{body_fault}
use Rattle.lis_link.specs.declared.sender.Phase.TheVariants.{Neutral}
use Rattle.lis_link.specs.declared.sender.Outcome.TheVariants.{Done}
use Rattle.lis_text.specs.declared.readiness.Readiness.TheVariants as Readinesses
use Rattle.lis_link.specs.Sender.{start_fault, most_tries}
use Rattle.lis_world.specs.declared.event.Event.{Event}
use Rattle.lis_world.specs.declared.event.Event.TheVariants.{Start, Deliver, DeliverNoRoom, Damage, Reply, DamageReply}
use Rattle.lis_world.specs.Session.{Session, session_at}
use Rattle.lis_world.specs.World.{World, new_world}
use Rattle.lis_world.specs.Steps.{world}

-- a frame goes to the receiver and a reply comes back: undisturbed, or while there is no room,
-- or with this frame body between STX and LF in the frame's place, or with this byte in the reply's place
pub data Round : Type 0 where
  undisturbed : Round
  without_room : Round
  bad_frame : List ℕ → Round
  bad_reply : ℕ → Round

abbrev pub round_events : Round → List Event
round_events undisturbed = Deliver ∷ Reply ∷ []
round_events without_room = DeliverNoRoom ∷ Reply ∷ []
round_events (bad_frame body) = Damage (STX ∷ (body ++ LF ∷ [])) ∷ Reply ∷ []
round_events (bad_reply b) = Deliver ∷ DamageReply b ∷ []

-- the disturbance is noticed: the frame body holds no mark and is no frame, the reply byte is neither ACK nor EOT
pub record IsBadBody (limit : ℕ) (body : List ℕ) : Type 0 where
  pub no_mark : All (λ b. is_mark b ≡ false) body
  pub fault : FrameFault
  pub is_bad : body_fault limit body ≡ Some fault

abbrev pub IsNoticed : ℕ → Round → Type 0
IsNoticed limit (bad_frame body) = IsBadBody limit body
IsNoticed limit (bad_reply b) = (b ≢ ACK) × (b ≢ EOT)
IsNoticed limit round = Unit {0}

-- how many rounds are undisturbed
abbrev pub good_rounds : List Round → ℕ
good_rounds [] = 0
good_rounds (undisturbed ∷ rounds) = suc (good_rounds rounds)
good_rounds (round ∷ rounds) = good_rounds rounds

-- fewer than six disturbed rounds are in a row, where so many are before the first
abbrev pub FewInARow : ℕ → List Round → Type 0
FewInARow row [] = Unit {0}
FewInARow row (undisturbed ∷ rounds) = FewInARow 0 rounds
FewInARow row (round ∷ rounds) = (suc row < most_tries) × FewInARow (suc row) rounds

-- no unit is on the link, no session goes on, and the receiver is ready
pub record IsCalm (w : World) : Type 0 where
  pub no_unit : w.units ≡ []
  pub neutral : w.sender.phase ≡ Neutral
  pub ready : w.receiver.readiness ≡ Readinesses.Ready

-- one session
abbrev pub session_events : List (List ℕ) → List Round → List Event
session_events texts rounds = Start texts ∷ Deliver ∷ Reply ∷ (flat_map round_events rounds ++ Deliver ∷ [])

-- a session of these texts in which everything was sent, accepted, acknowledged and delivered
abbrev pub done_session : ℕ → List (List ℕ) → Session
done_session limit texts = record {
  texts = texts;
  sent = session_frames limit texts;
  accepted = session_frames limit texts;
  acknowledged = length (session_frames limit texts);
  handed = texts;
  outcome = Some Done;
}

-- the last session is that one, and both ends are neutral
pub record IsCarried (limit : ℕ) (texts : List (List ℕ)) (before after : World) : Type 0 where
  pub one_more : length after.sessions ≡ suc (length before.sessions)
  pub session_is : session_at (length before.sessions) after.sessions ≡ done_session limit texts
  pub sender_neutral : after.sender.phase ≡ Neutral
  pub receiver_neutral : after.receiver.is_open ≡ false

-- texts that a session may have
pub record AreSendable (w : World) (texts : List (List ℕ)) : Type 0 where
  pub not_refused : start_fault w.sender texts ≡ None
  pub few : length texts ≤ most_texts

-- enough rounds
pub record AreEnough (limit : ℕ) (texts : List (List ℕ)) (rounds : List Round) : Type 0 where
  pub noticed : All (IsNoticed limit) rounds
  pub few_in_a_row : FewInARow 0 rounds
  pub enough_good : length (session_frames limit texts) ≤ good_rounds rounds

-- one session on an undisturbed link: as many rounds as there are frames
abbrev pub quiet_events : ℕ → List (List ℕ) → List Event
quiet_events limit texts = session_events texts (replicate (length (session_frames limit texts)) undisturbed)

-- the world after it
pub record IsQuietEnd (limit : ℕ) (texts : List (List ℕ)) (after : World) : Type 0 where
  pub sessions_are : after.sessions ≡ done_session limit texts ∷ []
  pub sender_neutral : after.sender.phase ≡ Neutral
  pub receiver_neutral : after.receiver.is_open ≡ false

-- after any events, a session of sendable texts with enough rounds is carried through
abbrev pub CarriesThrough : ℕ → Type 0
CarriesThrough limit =
    (events : List Event) (texts : List (List ℕ)) (rounds : List Round)
    → IsCalm (world limit events)
    → AreSendable (world limit events) texts
    → AreEnough limit texts rounds
    → IsCarried limit texts (world limit events) (world limit (events ++ session_events texts rounds))

-- on an undisturbed link the first session is
abbrev pub RunsQuietly : ℕ → Type 0
RunsQuietly limit = (texts : List (List ℕ)) → AreSendable new_world texts
    → IsQuietEnd limit texts (world limit (quiet_events limit texts))
