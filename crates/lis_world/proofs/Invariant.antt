-- What holds of the world after each event.
use Rattle.std.proofs.Common.{◌≡◌, ℕ, ◌<◌, ◌≤◌, ◌⊎◌, Bool, true, List, [], ◌∷◌, ◌++◌, length, drop, Some, subst}
use Rattle.std.specs.Prelude.{All}
use Rattle.lis_text.specs.Control.{ACK, EOT}
use Rattle.lis_text.specs.LinkText.{longest_text}
use Rattle.lis_text.specs.Text.{IsText}
use Rattle.lis_frame.specs.Frame.{FrameContent}
use Rattle.lis_frame.specs.Pieces.{session_frames}
use Rattle.lis_link.specs.declared.sender.Phase.{Phase}
use Rattle.lis_link.specs.declared.sender.Phase.TheVariants.{Neutral, AwaitLine, Busy, Contention, AwaitReply}
use Rattle.lis_link.specs.declared.sender.Outcome.TheVariants.{Done}
use Rattle.lis_link.specs.Joining.{groups}
use Rattle.lis_link.specs.Sender.{SenderState}
use Rattle.lis_world.specs.Unit.{Load, enquiry, ending, one_frame, Travelling}
use Rattle.lis_world.specs.Session.{Session, session_at}
use Rattle.lis_world.specs.World.{World, ComputerState}
use Rattle.lis_world.specs.Safe.{IsPrefix}

-- one session
pub record IsSound (limit : ℕ) (x : Session) : Type 0 where
  pub sendable : All (IsText longest_text) x.texts
  pub accepted_of_sent : IsPrefix x.accepted x.sent
  pub sent_of_frames : IsPrefix x.sent (session_frames limit x.texts)
  pub acknowledged_of_accepted : x.acknowledged ≤ length x.accepted
  pub delivered_whole : x.handed ≡ groups [] x.accepted
  pub done_acknowledged : x.outcome ≡ Some Done → length (session_frames limit x.texts) ≤ x.acknowledged

-- while the line is open, the receiver's frames are those of the session that owns it
abbrev pub Line : List Session → Bool → List FrameContent → ℕ → Type 0
Line ss is_open accepted owner = is_open ≡ true → (owner < length ss) × (accepted ≡ (session_at owner ss).accepted)

-- the last frame that session s has sent is f, and nothing after the frames before it is accepted but f
pub record Pending (ss : List Session) (is_open : Bool) (owner s : ℕ) (before : List FrameContent)
    (f : FrameContent) : Type 0 where
  pub is_session : s < length ss
  pub sent_is : (session_at s ss).sent ≡ before ++ f ∷ []
  pub accepted_is : ((session_at s ss).accepted ≡ before) ⊎ ((session_at s ss).accepted ≡ before ++ f ∷ [])
  pub owner_is : is_open ≡ true → owner ≡ s

-- nothing of session s was ever sent
abbrev pub Unsent : List Session → ℕ → Type 0
Unsent ss s = (s < length ss) × ((session_at s ss).sent ≡ [])

-- units after the front one are no frames
abbrev pub Waits : List Session → ℕ → Load → Type 0
Waits ss s enquiry = Unsent ss s
Waits ss s ending = Unit {0}
Waits ss s (one_frame f) = ⊥

abbrev pub Following : List Session → List Travelling → Type 0
Following ss [] = Unit {0}
Following ss (u ∷ us) = Waits ss u.session u.load × Following ss us

abbrev pub Leads : List Session → Bool → ℕ → ℕ → Load → Type 0
Leads ss is_open owner s enquiry = Unsent ss s
Leads ss is_open owner s ending = Unit {0}
Leads ss is_open owner s (one_frame f) = (before : List FrameContent) × Pending ss is_open owner s before f

abbrev pub Front : List Session → Bool → ℕ → List Travelling → Type 0
Front ss is_open owner [] = Unit {0}
Front ss is_open owner (u ∷ us) = Leads ss is_open owner u.session u.load × Following ss us

-- what a sender keeps are the frames of its session, while that goes on
abbrev pub KeepsFrames : Phase → List FrameContent → List FrameContent → Type 0
KeepsFrames Neutral kept frames = Unit {0}
KeepsFrames AwaitLine kept frames = kept ≡ frames
KeepsFrames Busy kept frames = kept ≡ frames
KeepsFrames Contention kept frames = kept ≡ frames
KeepsFrames AwaitReply kept frames = kept ≡ frames

-- the sender's session is the present one
pub record IsCurrent (limit : ℕ) (sender : SenderState) (x : Session) : Type 0 where
  pub frames_are : KeepsFrames sender.phase sender.frames (session_frames limit x.texts)
  pub acknowledged_is : sender.acknowledged ≡ x.acknowledged
  pub outcome_is : sender.outcome ≡ x.outcome

-- units that cause no reply
abbrev pub AllEndings : List Travelling → Type 0
AllEndings [] = Unit {0}
AllEndings (u ∷ us) = (u.load ≡ ending) × AllEndings us

-- units of which at most the last, an ENQ of session c, causes a reply
abbrev pub RequestsBy : ℕ → ℕ → Load → List Travelling → Type 0
RequestsBy c s enquiry us = (s ≡ c) × (us ≡ [])
RequestsBy c s ending us = Unit {0}
RequestsBy c s (one_frame f) us = ⊥

abbrev pub Requests : ℕ → List Travelling → Type 0
Requests c [] = Unit {0}
Requests c (u ∷ us) = RequestsBy c u.session u.load us × (u.load ≡ ending → Requests c us)

-- a byte that the sender takes for an acknowledgement
abbrev pub IsYes : ℕ → Type 0
IsYes b = (b ≡ ACK) ⊎ (b ≡ EOT)

abbrev pub RequestAnswer : List ℕ → Bool → ℕ → ℕ → Type 0
RequestAnswer replies is_open owner c = (b : ℕ) × (replies ≡ b ∷ []) × (is_open ≡ true → owner ≡ c)

abbrev pub FrameAnswer : List ℕ → List Session → ℕ → List FrameContent → FrameContent → Type 0
FrameAnswer replies ss s before f =
    (replies ≡ []) ⊎ ((b : ℕ) × (replies ≡ b ∷ []) × (IsYes b → (session_at s ss).accepted ≡ before ++ f ∷ []))

-- by phases: no session goes on
pub record IsResting (w : World) : Type 0 where
  pub no_reply : w.replies ≡ []
  pub live_endings : AllEndings (drop w.to_drop w.units)

-- ENQ is on its way, or its answer is
abbrev pub RequestTraffic : World → Type 0
RequestTraffic w =
    ((w.replies ≡ []) × Requests w.current (drop w.to_drop w.units))
    ⊎ ((w.units ≡ []) × RequestAnswer w.replies w.receiver.is_open w.opened w.current)

-- ENQ was sent
pub record IsRequesting (w : World) : Type 0 where
  pub unsent : Unsent w.sessions w.current
  pub none_acknowledged : w.sender.acknowledged ≡ 0
  pub traffic : RequestTraffic w

-- ENQ was rejected
pub record IsWaiting (w : World) : Type 0 where
  pub unsent : Unsent w.sessions w.current
  pub none_acknowledged : w.sender.acknowledged ≡ 0
  pub no_reply : w.replies ≡ []
  pub no_unit : w.units ≡ []

-- the frame is on its way, or its answer is
abbrev pub FrameTraffic : World → List FrameContent → FrameContent → Type 0
FrameTraffic w before frame =
    ((w.units ≡ record { session = w.current; load = one_frame frame } ∷ []) × (w.replies ≡ []))
    ⊎ ((w.units ≡ []) × FrameAnswer w.replies w.sessions w.current before frame)

-- a frame was sent
pub record IsAwaiting (w : World) : Type 0 where
  pub before : List FrameContent
  pub frame : FrameContent
  pub left : List FrameContent
  pub frames_are : w.sender.frames ≡ before ++ frame ∷ left
  pub acknowledged_is : w.sender.acknowledged ≡ length before
  pub pending : Pending w.sessions w.receiver.is_open w.opened w.current before frame
  pub unmuted : w.to_drop ≡ 0
  pub traffic : FrameTraffic w before frame

abbrev pub InPhase : Phase → World → Type 0
InPhase Neutral w = IsResting w
InPhase AwaitLine w = IsRequesting w
InPhase Busy w = IsWaiting w
InPhase Contention w = IsWaiting w
InPhase AwaitReply w = IsAwaiting w

pub record Holds (limit : ℕ) (w : World) : Type 0 where
  pub sound : (k : ℕ) → IsSound limit (session_at k w.sessions)
  pub to_drop_within : w.to_drop ≤ length w.units
  pub line : Line w.sessions w.receiver.is_open w.receiver.accepted w.opened
  pub front : Front w.sessions w.receiver.is_open w.opened w.units
  pub current : IsCurrent limit w.sender (session_at w.current w.sessions)
  pub phase : InPhase w.sender.phase w

-- what the sender keeps in a phase
pub kept_frames :
    (limit : ℕ) (w : World) (p : Phase)
    → Holds limit w
    → w.sender.phase ≡ p
    → KeepsFrames p w.sender.frames (session_frames limit (session_at w.current w.sessions).texts)
kept_frames limit w p h is =
    subst (λ q. KeepsFrames q w.sender.frames (session_frames limit (session_at w.current w.sessions).texts)) is
    h.current.frames_are

-- the sessions differ in what was accepted and delivered alone
pub record IsKeptSession (x y : Session) : Type 0 where
  pub texts_same : y.texts ≡ x.texts
  pub sent_same : y.sent ≡ x.sent
  pub acknowledged_same : y.acknowledged ≡ x.acknowledged
  pub outcome_same : y.outcome ≡ x.outcome

pub record AreKept (ss ss' : List Session) : Type 0 where
  pub length_same : length ss' ≡ length ss
  pub each_kept : (k : ℕ) → IsKeptSession (session_at k ss) (session_at k ss')

-- the computer's side after a unit has left the link, whether or not its bytes came
pub record IsLeft (limit s : ℕ) (load : Load) (d d' : ComputerState) : Type 0 where
  pub sound : (k : ℕ) → IsSound limit (session_at k d'.sessions)
  pub line : Line d'.sessions d'.receiver.is_open d'.receiver.accepted d'.opened
  pub kept : AreKept d.sessions d'.sessions
  pub after_ending : load ≡ ending → d'.replies ≡ []
  pub after_enquiry : load ≡ enquiry → (d'.replies ≡ []) ⊎ RequestAnswer d'.replies d'.receiver.is_open d'.opened s
  pub after_frame :
      (before : List FrameContent) (f : FrameContent)
      → load ≡ one_frame f
      → Pending d.sessions d.receiver.is_open d.opened s before f
      → Pending d'.sessions d'.receiver.is_open d'.opened s before f × FrameAnswer d'.replies d'.sessions s before f
