-- The front unit leaves the link: delivered, damaged, or lost.
use Rattle.std.proofs.Common.{◌≡◌, ℕ, ◌+◌, ◌%◌, length, ◌⊎◌, inl, inr, Bool, true, false, List, [], ◌∷◌, ◌++◌, refl}
use Rattle.std.proofs.Common.{sym, ap, ◌∙◌, subst, arith}
use Rattle.std.specs.Prelude.{Contains}
use Rattle.std.proofs.lemmas.Bool.{cond_both}
use Rattle.std.proofs.lemmas.List.{append_assoc}
use Rattle.std.proofs.lemmas.List.Elements.{All-contains, Contains-append_right}
use Rattle.lis_frame.specs.declared.frame.FrameFault.{FrameFault}
use Rattle.lis_frame.specs.declared.scanner.SignalOf.{SignalOf}
use Rattle.lis_frame.specs.declared.scanner.SignalOf.TheVariants.{Enq, Eot, Good, Bad}
use Rattle.lis_frame.specs.Limit.{IsLimit}
use Rattle.lis_frame.specs.Frame.{FrameContent, IsContent}
use Rattle.lis_frame.specs.Pieces.{session_frames}
use Rattle.lis_frame.specs.Stream.{signal_after, signals_after, stream_with}
use Rattle.lis_frame.specs.Frame.{frame_bytes}
use Rattle.lis_world.specs.Unit.{Load, enquiry, ending, one_frame, Travelling, load_bytes}
use Rattle.lis_world.specs.Session.{Session, session_at}
use Rattle.lis_world.specs.World.{World, ComputerState, computer_state_of, hears, settled}
use Rattle.lis_world.specs.Steps.{is_noticed, delivered, damaged}
use Rattle.lis_world.proofs.Invariant.{IsSound, Leads, Front, IsLeft, Holds}
use Rattle.lis_world.proofs.Leaving.{settled_holds}
use Rattle.lis_world.proofs.Hearing.{at_past, hears_signals, hears-heard}
use Rattle.lis_world.proofs.Cutting.{content-session_frames, number-session_frames}
use Rattle.lis_world.proofs.Arrival.{IsSide, left_unheard, left_bad, left_ending, left_enquiry, left_frame}
use Rattle.lis_frame.proofs.StreamLaws.{signals-frame_bytes}

-- the last frame that a session has sent is one of its frames
pub record IsNext (limit : ℕ) (before : List FrameContent) (f : FrameContent) : Type 0 where
  pub content : IsContent limit f
  pub number_is : f.number ≡ (length before + 1) % 8

contains_head : (f : FrameContent) (left : List FrameContent) → Contains (f ∷ left) f
contains_head f left = (0, omega arith, refl)

pub next_frame :
    (limit : ℕ) (x : Session) (before : List FrameContent) (f : FrameContent)
    → IsLimit limit
    → IsSound limit x
    → x.sent ≡ before ++ f ∷ []
    → IsNext limit before f
next_frame limit x before f is_limit sound sent =
    let rest = sound.sent_of_frames.rest in
    let frames_are : session_frames limit x.texts ≡ before ++ f ∷ rest =
    sym sound.sent_of_frames.joined ∙ ap (λ xs. xs ++ rest) sent ∙ append_assoc before (f ∷ []) rest in
    let all = content-session_frames limit x.texts is_limit sound.sendable in
    let here : IsContent limit f = All-contains (IsContent limit) (session_frames limit x.texts) f all
    (subst (λ xs. Contains xs f) (sym frames_are) (Contains-append_right before (f ∷ rest) f (contains_head f rest))) in
    record { content = here; number_is = number-session_frames limit x.texts before f rest frames_are }

pub side_of : (limit : ℕ) (w : World) → Holds limit w → IsSide limit (computer_state_of w)
side_of limit w h = record { sound = h.sound; line = h.line; no_reply = refl }

-- bytes with these signals
left_by_signals :
    (limit s : ℕ) (load : Load) (bytes : List ℕ) (d : ComputerState) (signals : List (SignalOf limit))
    → signals_after limit d.receiver.past bytes ≡ signals
    → IsLeft limit s load d (at_past (stream_with d.receiver.past bytes) (hears_signals s signals d))
    → IsLeft limit s load d (hears limit s bytes d)
left_by_signals limit s load bytes d signals are left =
    subst (IsLeft limit s load d) (sym (hears-heard limit s bytes d))
    (subst (λ xs. IsLeft limit s load d (at_past (stream_with d.receiver.past bytes) (hears_signals s xs d)))
    (sym are) left)

pub left_delivered :
    (limit s : ℕ) (load : Load) (d : ComputerState)
    → IsLimit limit
    → IsSide limit d
    → Leads d.sessions d.receiver.is_open d.opened s load
    → IsLeft limit s load d (hears limit s (load_bytes load) d)
unfolding signal_after
left_delivered limit s enquiry d is_limit side leads =
    left_by_signals limit s enquiry (load_bytes enquiry) d (Enq ∷ []) refl
    (left_enquiry limit s (stream_with d.receiver.past (load_bytes enquiry)) d side leads)
left_delivered limit s ending d is_limit side leads =
    left_by_signals limit s ending (load_bytes ending) d (Eot ∷ []) refl
    (left_ending limit s (stream_with d.receiver.past (load_bytes ending)) d side)
left_delivered limit s (one_frame f) d is_limit side leads =
    let next = next_frame limit (session_at s d.sessions) leads.0 f is_limit (side.sound s) leads.1.sent_is in
    left_by_signals limit s (one_frame f) (frame_bytes f) d (Good f ∷ [])
    (signals-frame_bytes limit d.receiver.past f next.content)
    (left_frame limit s f (stream_with d.receiver.past (frame_bytes f)) d leads.0 side leads.1 next.number_is)

-- what noticed damage is heard as
noticed_cases :
    {limit : ℕ} (load : Load) (signals : List (SignalOf limit))
    → is_noticed load signals ≡ true
    → (signals ≡ []) ⊎ ((f : FrameContent) × (fault : FrameFault) × (load ≡ one_frame f) × (signals ≡ Bad fault ∷ []))
noticed_cases load [] e = inl refl
noticed_cases enquiry (x ∷ xs) e = cc
noticed_cases ending (x ∷ xs) e = cc
noticed_cases (one_frame f) (Bad fault ∷ []) e = inr (f, fault, refl, refl)
noticed_cases (one_frame f) (Bad fault ∷ x ∷ xs) e = cc
noticed_cases (one_frame f) (Enq ∷ xs) e = cc
noticed_cases (one_frame f) (Eot ∷ xs) e = cc
noticed_cases (one_frame f) (Good g ∷ xs) e = cc

left_damaged :
    (limit s : ℕ) (load : Load) (bytes : List ℕ) (d : ComputerState)
    → IsSide limit d
    → is_noticed load (signals_after limit d.receiver.past bytes) ≡ true
    → IsLeft limit s load d (hears limit s bytes d)
left_damaged limit s load bytes d side noticed = go
    (noticed_cases load (signals_after limit d.receiver.past bytes) noticed)
  where
    go :
        (signals_after limit d.receiver.past bytes ≡ [])
        ⊎ ((f : FrameContent) × (fault : FrameFault) × (load ≡ one_frame f)
        × (signals_after limit d.receiver.past bytes ≡ Bad fault ∷ []))
        → IsLeft limit s load d (hears limit s bytes d)
    go (inl are) = left_by_signals limit s load bytes d [] are
        (left_unheard limit s load (stream_with d.receiver.past bytes) d side)
    go (inr one) =
        left_by_signals limit s load bytes d (Bad one.1 ∷ []) one.3
        (subst (λ l. IsLeft limit s l d (at_past (stream_with d.receiver.past bytes)
        (hears_signals {limit = limit} s (Bad one.1 ∷ []) d))) (sym one.2)
        (left_bad limit s one.0 one.1 (stream_with d.receiver.past bytes) d side))

pub leads_of : (limit : ℕ) (w : World) (u : Travelling) (us : List Travelling) → Holds limit w → w.units ≡ u ∷ us
    → Leads w.sessions w.receiver.is_open w.opened u.session u.load
leads_of limit w u us h units_are = (subst (Front w.sessions w.receiver.is_open w.opened) units_are h.front).0

pub delivered_holds : (limit : ℕ) (units : List Travelling) (w : World) → IsLimit limit → w.units ≡ units
    → Holds limit w → Holds limit (delivered limit units w)
delivered_holds limit [] w is_limit are h = h
delivered_holds limit (u ∷ us) w is_limit are h =
    settled_holds limit w u us (hears limit u.session (load_bytes u.load) (computer_state_of w)) h are
    (left_delivered limit u.session u.load (computer_state_of w) is_limit (side_of limit w h)
    (leads_of limit w u us h are))

pub damaged_holds :
    (limit : ℕ) (bytes : List ℕ) (units : List Travelling) (w : World) → w.units ≡ units → Holds limit w
    → Holds limit (damaged limit bytes units w)
damaged_holds limit bytes [] w are h = h
damaged_holds limit bytes (u ∷ us) w are h =
    cond_both (is_noticed u.load (signals_after limit w.receiver.past bytes))
    (settled us (hears limit u.session bytes (computer_state_of w)) w) w (Holds limit)
    (λ noticed. settled_holds limit w u us (hears limit u.session bytes (computer_state_of w)) h are
    (left_damaged limit u.session u.load bytes (computer_state_of w) (side_of limit w h) noticed))
    (λ ignored. h)
