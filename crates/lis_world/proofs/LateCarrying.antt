-- A line that was connected anew carries a session as the other link does: the events of one session do the same on
-- both.
use Rattle.std.proofs.Common.{◌≡◌, ℕ, Bool, true, false, List, [], ◌∷◌, ◌++◌, length, map, refl, sym, ap, ◌∙◌, subst}
use Rattle.std.proofs.Common.{arith}
use Rattle.std.specs.Prelude.{not, ◌||◌, ◌==◌, replicate}
use Rattle.std.specs.List.{flat_map}
use Rattle.std.proofs.lemmas.Bool.{cond-true, and_parts, and_from, eqb-true}
use Rattle.lis_frame.specs.Limit.{IsLimit}
use Rattle.lis_frame.specs.Pieces.{session_frames}
use Rattle.lis_link.specs.Sender.{start_fault_in}
use Rattle.lis_link.specs.declared.sender.Phase.TheVariants.{Neutral}
use Rattle.lis_world.specs.declared.event.Event.{Event}
use Rattle.lis_world.specs.declared.event.Event.TheVariants.{Start, Deliver, Reply}
use Rattle.lis_world.specs.declared.event.LateEvent.{LateEvent}
use Rattle.lis_world.specs.declared.event.LateEvent.TheVariants.{Happens}
use Rattle.lis_world.specs.Unit.{Travelling}
use Rattle.lis_world.specs.World.{World, new_world}
use Rattle.lis_world.specs.Steps.{after_event}
use Rattle.lis_world.specs.inside.Playing.{runs, runs_late}
use Rattle.lis_world.specs.Progress.{Round, undisturbed, without_room, bad_frame, bad_reply, round_events}
use Rattle.lis_world.specs.Progress.{session_events, IsCarried, AreSendable, quiet_events}
use Rattle.lis_world.specs.Progress.{done_session}
use Rattle.lis_world.specs.Late.{happens_late, after_late_event, late_world, has_no_unit, has_no_reply}
use Rattle.lis_world.specs.Late.{is_empty, is_quiet, only_endings, is_answered, reply_may_come, at_any_time}
use Rattle.lis_world.specs.LateRecovery.{renewal, CarriesAfter, CarriesOnNewLine, CarriesOnNewLines}
use Rattle.lis_world.proofs.Invariant.{Holds}
use Rattle.lis_world.proofs.Carrying.{carried, runs_quietly}
use Rattle.lis_world.proofs.Recovering.{restarted}
use Rattle.lis_world.proofs.LateSafety.{HoldsLate, from_quiet, StartsSafely, runs_late_hold, new_late}
use Rattle.lis_world.proofs.LateSafety.{empty_starts}
use Rattle.lis_world.proofs.LateDiscipline.{holds_in_time}

-- events that do the same on both links
abbrev IsPlain : (World → Bool) → ℕ → Event → Type 0
IsPlain may_start limit event = (w : World) → happens_late may_start limit event w ≡ after_event limit event w

abbrev ArePlain : (World → Bool) → ℕ → List Event → Type 0
ArePlain may_start limit [] = Unit {0}
ArePlain may_start limit (event ∷ events) = IsPlain may_start limit event × ArePlain may_start limit events

module _ (may_start : World → Bool) (limit : ℕ) where
  plain_append :
      (xs ys : List Event) → ArePlain may_start limit xs → ArePlain may_start limit ys
      → ArePlain may_start limit (xs ++ ys)
  plain_append [] ys h h' = h'
  plain_append (x ∷ xs) ys h h' = (h.0, plain_append xs ys h.1 h')

  plain_round : (round : Round) → ArePlain may_start limit (round_events round)
  plain_round undisturbed = (λ w. refl, (λ w. refl, tt))
  plain_round without_room = (λ w. refl, (λ w. refl, tt))
  plain_round (bad_frame body) = (λ w. refl, (λ w. refl, tt))
  plain_round (bad_reply b) = (λ w. refl, (λ w. refl, tt))

  plain_rounds : (rounds : List Round) → ArePlain may_start limit (flat_map round_events rounds)
  plain_rounds [] = tt
  plain_rounds (round ∷ rounds) =
      plain_append (round_events round) (flat_map round_events rounds) (plain_round round) (plain_rounds rounds)

  plain_runs :
      (events : List Event) (w : World) → ArePlain may_start limit events
      → runs_late may_start limit (map Happens events) w ≡ runs limit events w
  plain_runs [] w h = refl
  plain_runs (event ∷ events) w h =
      ap (runs_late may_start limit (map Happens events)) (h.0 w) ∙ plain_runs events (after_event limit event w) h.1

  late-append : (xs ys : List LateEvent) (w : World)
      → runs_late may_start limit (xs ++ ys) w ≡ runs_late may_start limit ys (runs_late may_start limit xs w)
  late-append [] ys w = refl
  late-append (x ∷ xs) ys w = late-append xs ys (after_late_event may_start limit x w)

  -- a session that may start
  session_runs :
      (texts : List (List ℕ)) (rounds : List Round) (w : World)
      → may_start w ≡ true
      → runs_late may_start limit (map Happens (session_events texts rounds)) w
      ≡ runs limit (session_events texts rounds) w
  session_runs texts rounds w may =
      let left : List Event = Deliver ∷ Reply ∷ (flat_map round_events rounds ++ Deliver ∷ []) in
      let plain : ArePlain may_start limit left = (
        λ v. refl,
        (
          λ v. refl,
          plain_append (flat_map round_events rounds) (Deliver ∷ []) (plain_rounds rounds)
              (λ v. refl, tt),
        ),
      ) in
      ap (runs_late may_start limit (map Happens left))
      (cond-true (may_start w) (after_event limit (Start texts) w) w may)
      ∙ plain_runs left (after_event limit (Start texts) w) plain

  carries_after :
      (events : List LateEvent)
      → IsLimit limit
      → HoldsLate limit (late_world may_start limit events)
      → ((w : World) → is_empty w ≡ true → may_start w ≡ true)
      → CarriesAfter may_start limit events
  carries_after events is_limit holds_before starts texts rounds are enough =
      let w : World = late_world may_start limit events in
      let v : World = runs_late may_start limit renewal w in
      let late : HoldsLate limit v =
      runs_late_hold is_empty limit renewal w is_limit (empty_starts limit) holds_before in
      let neutral : v.sender.phase ≡ Neutral = restarted w.sender.phase w.sender refl in
      let holds : Holds limit v = from_quiet limit v late neutral (record { no_reply = refl; endings = tt }) in
      let before : late_world may_start limit (events ++ renewal) ≡ v = late-append events renewal new_world in
      let result : IsCarried limit texts v (runs limit (session_events texts rounds) v) =
      carried limit texts rounds v is_limit holds (record { no_unit = refl; neutral = neutral; ready = refl }) refl
      (record { not_refused = ap (λ p. start_fault_in p texts) neutral ∙ are.not_refused; few = are.few }) enough in
      let after : late_world may_start limit ((events ++ renewal) ++ map Happens (session_events texts rounds))
      ≡ runs limit (session_events texts rounds) v =
      late-append (events ++ renewal) (map Happens (session_events texts rounds)) new_world
      ∙ ap (runs_late may_start limit (map Happens (session_events texts rounds))) before
      ∙ session_runs texts rounds v (starts v refl) in
      subst (λ a. IsCarried limit texts a
      (late_world may_start limit ((events ++ renewal) ++ map Happens (session_events texts rounds)))) (sym before)
      (subst (IsCarried limit texts v) (sym after) result)

pub carries_on_new_line :
    (may_start : World → Bool) (limit : ℕ)
    → IsLimit limit
    → StartsSafely limit may_start
    → ((w : World) → is_empty w ≡ true → may_start w ≡ true)
    → CarriesOnNewLine may_start limit
carries_on_new_line may_start limit is_limit safely starts events =
    carries_after may_start limit events is_limit
    (runs_late_hold may_start limit events new_world is_limit safely (new_late limit)) starts

pub carries_on_new_lines : (limit : ℕ) → IsLimit limit → CarriesOnNewLines limit
carries_on_new_lines limit is_limit events in_time =
    carries_after at_any_time limit events is_limit (holds_in_time limit events is_limit in_time) (λ w empty. refl)

-- ---- each rule lets a session start on an empty link

pub quiet_where_empty : (w : World) → is_empty w ≡ true → is_quiet w ≡ true
quiet_where_empty w empty =
    let parts = and_parts (has_no_unit w) (has_no_reply w) empty in
    and_from (only_endings w.units) (has_no_reply w) (go w.units parts.0) parts.1
  where
    go : (units : List Travelling) → (length units == 0) ≡ true → only_endings units ≡ true
    go [] none = refl
    go (u ∷ us) none =
        let long : length (u ∷ us) ≡ 0 = eqb-true (length (u ∷ us)) 0 none in
        absurd (omega arith)

pub answered_where_empty : (w : World) → is_empty w ≡ true → is_answered w ≡ true
answered_where_empty w empty = go (not (reply_may_come w.sender.outcome))
  where
    go : (answered : Bool) → (answered || is_quiet w) ≡ true
    go true = refl
    go false = quiet_where_empty w empty

-- the first session on an undisturbed line
pub runs_quietly_late : (limit : ℕ) → IsLimit limit → (texts : List (List ℕ)) → AreSendable new_world texts
    → (late_world is_empty limit (map Happens (quiet_events limit texts))).sessions ≡ done_session limit texts ∷ []
runs_quietly_late limit is_limit texts sendable =
    ap (λ (w : World). w.sessions)
    (session_runs is_empty limit texts (replicate (length (session_frames limit texts)) undisturbed) new_world refl)
    ∙ (runs_quietly limit is_limit texts sendable).sessions_are
