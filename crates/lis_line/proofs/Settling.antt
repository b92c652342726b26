-- No state of two stations blocks their line for good: once both gave up, what is on it leaves it and nothing follows.
use Rattle.std.proofs.Common.{◌≡◌, ℕ, suc, ◌-◌, ◌≤◌, Bool, true, false, List, [], ◌∷◌, ◌++◌, map, length}
use Rattle.std.proofs.Common.{Option, None, Some, refl, sym, ap, ◌∙◌, subst, arith}
use Rattle.lis_frame.specs.Limit.{IsLimit}
use Rattle.lis_link.specs.declared.sender.Phase.{Phase}
use Rattle.lis_link.specs.declared.sender.Phase.TheVariants as Phases
use Rattle.lis_link.specs.declared.receiver.Note.{Note}
use Rattle.lis_link.specs.declared.receiver.Note.TheVariants.{Opened, Accepted}
use Rattle.lis_link.specs.Sender.{SenderState, restart_in}
use Rattle.lis_link.specs.Receiver.{ReceiverStep, on_byte}
use Rattle.lis_world.specs.Unit.{Travelling, load_bytes}
use Rattle.lis_world.specs.World.{lowered}
use Rattle.lis_station.specs.Station.{StationState, awaits_reply, routed, asking}
use Rattle.lis_station.specs.Line.{TwoWay, Item, sent, answered, turned, units_of, noted, reply_out, steps}
use Rattle.lis_station.specs.Line.{comes, arrives, left_line, lost_in, room_near, with_station, happens}
use Rattle.lis_station.specs.Line.{close_line, set_ready, LineEvent, at_analyzer, at_computer}
use Rattle.lis_station.specs.Line.{two_way, new_two_way}
use Rattle.lis_station.proofs.Directions.{units_again}
use Rattle.lis_line.specs.Progress.{IsReady, IsCalmLine, Leaving, leaving_event, leaving_at, given_up_both, settling}
use Rattle.lis_line.specs.Progress.{BecomesCalm}
use Rattle.lis_line.specs.Progress as Progress
use Rattle.lis_line.proofs.OneSided.{line_runs, line_runs-append}

-- both senders are at rest, units alone are on the line, and no reply to any of them comes
pub record Settles (t : TwoWay) : Type 0 where
  pub near_neutral : t.near.station.sender.phase ≡ Phases.Neutral
  pub far_neutral : t.far.station.sender.phase ≡ Phases.Neutral
  pub out : List Travelling
  pub into : List Travelling
  pub out_is : t.outward ≡ map sent out
  pub in_is : t.inward ≡ map sent into
  pub near_drop : t.near.to_drop ≡ length out
  pub far_drop : t.far.to_drop ≡ length into

settles_turned : (t : TwoWay) → Settles t → Settles (turned t)
settles_turned t h = record {
  near_neutral = h.far_neutral;
  far_neutral = h.near_neutral;
  out = h.into;
  into = h.out;
  out_is = h.in_is;
  in_is = h.out_is;
  near_drop = h.far_drop;
  far_drop = h.near_drop;
}

-- ---- both gave up

restarted_neutral : (phase : Phase) (s : SenderState) → s.phase ≡ phase → (restart_in phase s).phase ≡ Phases.Neutral
restarted_neutral Phases.Neutral s is = is
restarted_neutral Phases.AwaitLine s is = refl
restarted_neutral Phases.Busy s is = refl
restarted_neutral Phases.Contention s is = refl
restarted_neutral Phases.AwaitReply s is = refl

both_gave_up : (limit : ℕ) (t : TwoWay) → Settles (line_runs limit given_up_both t)
both_gave_up limit t = record {
  near_neutral = restarted_neutral t.near.station.sender.phase t.near.station.sender refl;
  far_neutral = restarted_neutral t.far.station.sender.phase t.far.station.sender refl;
  out = units_of t.outward;
  into = units_of t.inward;
  out_is = refl;
  in_is = refl;
  near_drop = refl;
  far_drop = ap length (units_again (units_of t.inward));
}

-- ---- an item comes, and is not answered

-- but for what a receiver and the sessions' history keep, all is as before
record IsQuiet (t v : TwoWay) : Type 0 where
  near_sender : v.near.station.sender ≡ t.near.station.sender
  far_sender : v.far.station.sender ≡ t.far.station.sender
  near_drop : v.near.to_drop ≡ t.near.to_drop
  far_drop : v.far.to_drop ≡ t.far.to_drop
  outward_is : v.outward ≡ t.outward
  inward_is : v.inward ≡ t.inward

quiet_refl : (t : TwoWay) → IsQuiet t t
quiet_refl t = record {
  near_sender = refl;
  far_sender = refl;
  near_drop = refl;
  far_drop = refl;
  outward_is = refl;
  inward_is = refl;
}

quiet_then : (t v u : TwoWay) → IsQuiet t v → IsQuiet v u → IsQuiet t u
quiet_then t v u first later = record {
  near_sender = later.near_sender ∙ first.near_sender;
  far_sender = later.far_sender ∙ first.far_sender;
  near_drop = later.near_drop ∙ first.near_drop;
  far_drop = later.far_drop ∙ first.far_drop;
  outward_is = later.outward_is ∙ first.outward_is;
  inward_is = later.inward_is ∙ first.inward_is;
}

noted_quiet : (item : Item) (step : ReceiverStep) (note : Note) (t : TwoWay) → IsQuiet t (noted item step note t)
noted_quiet (sent unit) step Opened t = record {
  near_sender = refl;
  far_sender = refl;
  near_drop = refl;
  far_drop = refl;
  outward_is = refl;
  inward_is = refl;
}
noted_quiet (answered b) step Opened t = quiet_refl t
noted_quiet (sent unit) step (Accepted n) t = record {
  near_sender = refl;
  far_sender = refl;
  near_drop = refl;
  far_drop = refl;
  outward_is = refl;
  inward_is = refl;
}
noted_quiet (answered b) step (Accepted n) t = record {
  near_sender = refl;
  far_sender = refl;
  near_drop = refl;
  far_drop = refl;
  outward_is = refl;
  inward_is = refl;
}
noted_quiet (sent unit) step _ t = quiet_refl t
noted_quiet (answered b) step _ t = quiet_refl t

room_quiet : (room : Bool) (t : TwoWay) → IsQuiet t (room_near room t)
room_quiet room t = record {
  near_sender = refl;
  far_sender = refl;
  near_drop = refl;
  far_drop = refl;
  outward_is = refl;
  inward_is = refl;
}

byte_quiet : (limit n b : ℕ) (item : Item) (t : TwoWay) → t.far.to_drop ≡ suc n
    → IsQuiet t (steps item (routed limit false b t.near.station) t)
byte_quiet limit n b item t dropped =
    let step : ReceiverStep = asking t.near.station.asks_turn (on_byte limit b t.near.station.receiver) in
    let after : StationState = (routed limit false b t.near.station).after in
    let there : TwoWay = record t { near = with_station after t.near } in
    let heard : IsQuiet t there = record {
      near_sender = refl;
      far_sender = refl;
      near_drop = refl;
      far_drop = refl;
      outward_is = refl;
      inward_is = refl;
    } in
    subst (λ m. IsQuiet t (reply_out m step.reply (noted item step step.note there))) (sym dropped)
    (by step.reply (quiet_then t there (noted item step step.note there) heard (noted_quiet item step step.note there)))
  where
    by : {v u : TwoWay} (reply : Option ℕ) → IsQuiet v u → IsQuiet v (reply_out (suc n) reply u)
    by None h = h
    by (Some b) h = h

comes_quiet : (limit n : ℕ) (item : Item) (bytes : List ℕ) (t : TwoWay)
    → t.near.station.sender.phase ≡ Phases.Neutral → t.far.to_drop ≡ suc n
    → IsQuiet t (comes limit item bytes t)
comes_quiet limit n item [] t neutral dropped = quiet_refl t
comes_quiet limit n item (b ∷ bytes) t neutral dropped =
    let v : TwoWay = steps item (routed limit (awaits_reply t.near.station.sender.phase) b t.near.station) t in
    let first : IsQuiet t v =
    subst (λ p. IsQuiet t (steps item (routed limit (awaits_reply p) b t.near.station) t)) (sym neutral)
    (byte_quiet limit n b item t dropped) in
    quiet_then t v (comes limit item bytes v) first
    (comes_quiet limit n item bytes v (ap (λ (s : SenderState). s.phase) first.near_sender ∙ neutral)
    (first.far_drop ∙ dropped))

-- ---- an item leaves the line here

-- one item less comes here, and as many there
record Leaves (t v : TwoWay) : Type 0 where
  settles : Settles v
  fewer : length v.inward ≤ length t.inward - 1
  as_many : length v.outward ≡ length t.outward

-- nothing was on the line towards here
none_leaves : (t v : TwoWay) → Settles t → IsQuiet t v → t.inward ≡ [] → Leaves t v
none_leaves t v h quiet none = record {
  settles = record {
    near_neutral = ap (λ (s : SenderState). s.phase) quiet.near_sender ∙ h.near_neutral;
    far_neutral = ap (λ (s : SenderState). s.phase) quiet.far_sender ∙ h.far_neutral;
    out = h.out;
    into = h.into;
    out_is = quiet.outward_is ∙ h.out_is;
    in_is = quiet.inward_is ∙ h.in_is;
    near_drop = quiet.near_drop ∙ h.near_drop;
    far_drop = quiet.far_drop ∙ h.far_drop;
  };
  fewer = omega (arith, ap length quiet.inward_is, ap length none);
  as_many = ap length quiet.outward_is;
}

-- the front unit has left it
front_leaves :
    (t v : TwoWay) (unit : Travelling) (units : List Travelling) → Settles t → t.inward ≡ sent unit ∷ map sent units
    → t.far.to_drop ≡ suc (length units)
    → IsQuiet (record t { inward = map sent units }) v
    → Leaves t (left_line (sent unit) v)
front_leaves t v unit units h front dropped quiet = record {
  settles = record {
    near_neutral = ap (λ (s : SenderState). s.phase) quiet.near_sender ∙ h.near_neutral;
    far_neutral = ap (λ (s : SenderState). s.phase) quiet.far_sender ∙ h.far_neutral;
    out = h.out;
    into = units;
    out_is = quiet.outward_is ∙ h.out_is;
    in_is = quiet.inward_is;
    near_drop = quiet.near_drop ∙ h.near_drop;
    far_drop = ap lowered (quiet.far_drop ∙ dropped);
  };
  fewer = omega (arith, ap length quiet.inward_is, ap length front);
  as_many = ap length quiet.outward_is;
}

none_here : (limit : ℕ) (leaving : Leaving) (t : TwoWay) → Settles t → t.inward ≡ []
    → Leaves t (happens limit (leaving_event leaving) t)
none_here limit Progress.comes t h none =
    subst (λ xs. Leaves t (arrives limit xs t)) (sym none) (none_leaves t t h (quiet_refl t) none)
none_here limit Progress.comes_without_room t h none =
    let shut : TwoWay = room_near false t in
    subst (λ xs. Leaves t (room_near true (arrives limit xs shut))) (sym none)
    (none_leaves t (room_near true shut) h
    (quiet_then t shut (room_near true shut) (room_quiet false t) (room_quiet true shut)) none)
none_here limit Progress.is_lost t h none =
    subst (λ xs. Leaves t (lost_in xs t)) (sym none) (none_leaves t t h (quiet_refl t) none)

front_here :
    (limit : ℕ) (leaving : Leaving) (t : TwoWay) (unit : Travelling) (units : List Travelling) → Settles t
    → t.inward ≡ sent unit ∷ map sent units
    → t.far.to_drop ≡ suc (length units)
    → Leaves t (happens limit (leaving_event leaving) t)
front_here limit Progress.comes t unit units h front dropped =
    let left : TwoWay = record t { inward = map sent units } in
    let come : TwoWay = comes limit (sent unit) (load_bytes unit.load) left in
    subst (λ xs. Leaves t (arrives limit xs t)) (sym front)
    (front_leaves t come unit units h front dropped
    (comes_quiet limit (length units) (sent unit) (load_bytes unit.load) left h.near_neutral dropped))
front_here limit Progress.comes_without_room t unit units h front dropped =
    let left : TwoWay = record t { inward = map sent units } in
    let shut : TwoWay = room_near false left in
    let come : TwoWay = comes limit (sent unit) (load_bytes unit.load) shut in
    subst (λ xs. Leaves t (room_near true (arrives limit xs (room_near false t)))) (sym front)
    (front_leaves t (room_near true come) unit units h front dropped
    (quiet_then left shut (room_near true come) (room_quiet false left)
    (quiet_then shut come (room_near true come)
    (comes_quiet limit (length units) (sent unit) (load_bytes unit.load) shut h.near_neutral dropped)
    (room_quiet true come))))
front_here limit Progress.is_lost t unit units h front dropped =
    let left : TwoWay = record t { inward = map sent units } in
    subst (λ xs. Leaves t (lost_in xs t)) (sym front) (front_leaves t left unit units h front dropped (quiet_refl left))

leaves : (limit : ℕ) (leaving : Leaving) (t : TwoWay) → Settles t
    → Leaves t (happens limit (leaving_event leaving) t)
leaves limit leaving t h = go h.into refl
  where
    go : (into : List Travelling) → h.into ≡ into → Leaves t (happens limit (leaving_event leaving) t)
    go [] e = none_here limit leaving t h (h.in_is ∙ ap (map sent) e)
    go (unit ∷ units) e =
        front_here limit leaving t unit units h (h.in_is ∙ ap (map sent) e) (h.far_drop ∙ ap length e)

-- enough of them leave the line empty
record IsEmptied (t v : TwoWay) : Type 0 where
  settles : Settles v
  none_in : v.inward ≡ []
  as_many : length v.outward ≡ length t.outward

no_item : (items : List Item) → length items ≤ 0 → items ≡ []
no_item [] few = refl
no_item (item ∷ items) few = absurd (omega (arith, few))

all_leave : (limit : ℕ) (leavings : List Leaving) (t : TwoWay) → Settles t → length t.inward ≤ length leavings
    → IsEmptied t (line_runs limit (leaving_at at_analyzer leavings) t)
all_leave limit [] t h few = record { settles = h; none_in = no_item t.inward few; as_many = refl }
all_leave limit (leaving ∷ leavings) t h few =
    let first = leaves limit leaving t h in
    let fewer = first.fewer in
    let later = all_leave limit leavings (happens limit (leaving_event leaving) t) first.settles
    (omega (arith, few, fewer)) in
    record { settles = later.settles; none_in = later.none_in; as_many = later.as_many ∙ first.as_many }

all_leave_there : (limit : ℕ) (leavings : List Leaving) (t : TwoWay)
    → line_runs limit (leaving_at at_computer leavings) t
    ≡ turned (line_runs limit (leaving_at at_analyzer leavings) (turned t))
all_leave_there limit [] t = refl
all_leave_there limit (leaving ∷ leavings) t =
    all_leave_there limit leavings (turned (happens limit (leaving_event leaving) (turned t)))

-- and then both close it, and are ready
abbrev closing_both : List LineEvent
closing_both =
    (at_analyzer close_line ∷ at_analyzer (set_ready true) ∷ [])
    ++ (at_computer close_line ∷ at_computer (set_ready true) ∷ [])

closed_calm : (limit : ℕ) (t : TwoWay) → Settles t → t.outward ≡ [] → t.inward ≡ []
    → IsCalmLine (line_runs limit closing_both t)
closed_calm limit t h none_out none_in = record {
  none_out = none_out;
  none_in = none_in;
  near = record { neutral = h.near_neutral; closed = refl; ready = refl; room = refl; no_request = refl };
  far = record { neutral = h.far_neutral; closed = refl; ready = refl; room = refl; no_request = refl };
}

settled_calm :
    (limit : ℕ) (here there : List Leaving) (t : TwoWay) → Settles t
    → length t.inward ≤ length here → length t.outward ≤ length there
    → IsCalmLine (line_runs limit (settling here there) t)
settled_calm limit here there t h few_in few_out =
    let v : TwoWay = line_runs limit (leaving_at at_analyzer here) t in
    let first = all_leave limit here t h few_in in
    let as_many = first.as_many in
    let u : TwoWay = line_runs limit (leaving_at at_analyzer there) (turned v) in
    let later = all_leave limit there (turned v) (settles_turned v first.settles) (omega (arith, few_out, as_many)) in
    let none_more : u.outward ≡ [] =
    no_item u.outward (omega (arith, later.as_many, ap length first.none_in)) in
    subst IsCalmLine
    (sym (line_runs-append limit (leaving_at at_analyzer here ++ leaving_at at_computer there) closing_both t
    ∙ ap (line_runs limit closing_both)
    (line_runs-append limit (leaving_at at_analyzer here) (leaving_at at_computer there) t
    ∙ all_leave_there limit there v)))
    (closed_calm limit (turned u) (settles_turned u later.settles) later.none_in none_more)

pub becomes_calm : (limit : ℕ) → IsLimit limit → BecomesCalm limit
becomes_calm limit is_limit events here there few_in few_out =
    let t : TwoWay = line_runs limit given_up_both (two_way limit events) in
    let is : two_way limit (events ++ given_up_both) ≡ t = line_runs-append limit events given_up_both new_two_way in
    let after : two_way limit ((events ++ given_up_both) ++ settling here there)
    ≡ line_runs limit (settling here there) (two_way limit (events ++ given_up_both)) =
    line_runs-append limit (events ++ given_up_both) (settling here there) new_two_way in
    subst IsCalmLine (sym (after ∙ ap (line_runs limit (settling here there)) is))
    (settled_calm limit here there t (both_gave_up limit (two_way limit events))
    (subst (λ (v : TwoWay). length v.inward ≤ length here) is few_in)
    (subst (λ (v : TwoWay). length v.outward ≤ length there) is few_out))
