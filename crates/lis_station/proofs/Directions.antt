-- What each event does to a direction.
use Rattle.std.proofs.Common.{◌≡◌, ℕ, ◌+◌, ◌<◌, ◌≤◌, Bool, true, false, List, [], ◌∷◌, ◌++◌, length, take, drop, map}
use Rattle.std.proofs.Common.{Option, None, Some, refl, sym, ap, ◌∙◌, subst, arith}
use Rattle.std.proofs.lemmas.List.{drop-append-le, take-append-le, length_push}
use Rattle.lis_link.specs.declared.sender.Phase.{Phase}
use Rattle.lis_link.specs.declared.sender.Phase.TheVariants.{Neutral, AwaitLine, Busy, Contention, AwaitReply}
use Rattle.lis_link.specs.declared.sender.StartFault.{StartFault}
use Rattle.lis_link.specs.Sender.{started, bad_texts, start_fault_in, start_fault}
use Rattle.std.specs.Option.{option_map}
use Rattle.lis_world.specs.Unit.{enquiry, Travelling}
use Rattle.lis_world.specs.Session.{Session, new_session}
use Rattle.lis_world.specs.World.{World}
use Rattle.lis_world.specs.Steps.{begins}
use Rattle.lis_world.proofs.SessionLemmas.{at-more_last}
use Rattle.lis_world.proofs.Invariant.{Holds}
use Rattle.lis_world.proofs.Starting.{can_start, begins_holds}
use Rattle.lis_station.specs.declared.station.StationFault.{StationFault}
use Rattle.lis_station.specs.declared.station.StationFault.TheVariants.{Start}
use Rattle.lis_station.specs.declared.station.Turn.{Turn}
use Rattle.lis_station.specs.declared.station.Turn.TheVariants.{Free}
use Rattle.lis_station.specs.Station.{StationState, station_fault_by, station_fault}
use Rattle.lis_station.specs.Line.{Item, sent, answered, End, TwoWay, units_of, texts_of, with_session}
use Rattle.lis_station.specs.inside.Line.{answers_of}
use Rattle.lis_station.specs.Line.{put_out, begins_out}
use Rattle.lis_station.proofs.Shadow.{shadow_in, NoEnquiry, Tail, Ahead, InOrder, HoldsOut}

-- ---- lists of items

pub units_of-append : (xs ys : List Item) → units_of (xs ++ ys) ≡ units_of xs ++ units_of ys
units_of-append [] ys = refl
units_of-append (sent u ∷ xs) ys = ap (λ us. u ∷ us) (units_of-append xs ys)
units_of-append (answered b ∷ xs) ys = units_of-append xs ys

pub answers_of-append : (xs ys : List Item) → answers_of (xs ++ ys) ≡ answers_of xs ++ answers_of ys
answers_of-append [] ys = refl
answers_of-append (sent u ∷ xs) ys = answers_of-append xs ys
answers_of-append (answered b ∷ xs) ys = ap (λ bs. b ∷ bs) (answers_of-append xs ys)

pub no_answers : (us : List Travelling) → answers_of (map sent us) ≡ []
no_answers [] = refl
no_answers (u ∷ us) = no_answers us

pub units_again : (us : List Travelling) → units_of (map sent us) ≡ us
units_again [] = refl
units_again (u ∷ us) = ap (λ vs. u ∷ vs) (units_again us)

-- ---- the order

tail_map : (p q : Type 0) → (p → q) → (items : List Item) → Tail p items → Tail q items
tail_map p q f [] h = tt
tail_map p q f (answered b ∷ items) h = tail_map p q f items h
tail_map p q f (sent u ∷ items) h = (f h.0, h.1)

ahead_map : (p q : Type 0) → (p → q) → (items : List Item) → Ahead p items → Ahead q items
ahead_map p q f [] h = tt
ahead_map p q f (sent u ∷ items) h = ahead_map p q f items h
ahead_map p q f (answered b ∷ items) h = tail_map p q f items h

pub order_map : (phase : Phase) (p q : Type 0) → (p → q) → (items : List Item) → InOrder phase p items
    → InOrder phase q items
order_map Neutral p q f items h = tt
order_map AwaitLine p q f items h = ahead_map p q f items h
order_map Busy p q f items h = tt
order_map Contention p q f items h = tt
order_map AwaitReply p q f items h = tail_map p q f items h

-- ---- a session begins

pub units_more :
    (lost : ℕ) (items : List Item) (u : Travelling)
    → lost ≤ length (units_of items)
    → drop lost (units_of (items ++ sent u ∷ [])) ≡ drop lost (units_of items) ++ u ∷ []
units_more lost items u within =
    ap (drop lost) (units_of-append items (sent u ∷ [])) ∙ drop-append-le lost (units_of items) (u ∷ []) within

pub lost_more :
    (lost : ℕ) (items : List Item) (u : Travelling)
    → lost ≤ length (units_of items)
    → take lost (units_of (items ++ sent u ∷ [])) ≡ take lost (units_of items)
lost_more lost items u within =
    ap (take lost) (units_of-append items (sent u ∷ [])) ∙ take-append-le lost (units_of items) (u ∷ []) within

ahead_of_units : (p : Type 0) (items : List Item) → answers_of items ≡ [] → Ahead p items
ahead_of_units p [] none = tt
ahead_of_units p (sent u ∷ items) none = ahead_of_units p items none
ahead_of_units p (answered b ∷ items) none = absurd (cc)

-- the station after ENQ went out
abbrev pub begun : ℕ → List (List ℕ) → Turn → StationState → StationState
begun limit texts turn s = record s { sender = started limit texts; turn = turn }

-- the sender rests, no reply comes, and ENQ goes out
pub begun_out :
    (limit : ℕ) (texts : List (List ℕ)) (turn : Turn) (t : TwoWay) (lost : ℕ)
    → lost ≤ length (units_of t.outward)
    → Holds limit (shadow_in Neutral lost t)
    → (0 < lost → t.far.station.receiver.is_open ≡ false)
    → NoEnquiry limit (take lost (units_of t.outward))
    → bad_texts texts ≡ None
    → HoldsOut limit
    (put_out enquiry (record t { near = with_session (begun limit texts turn t.near.station) texts t.near }))
begun_out limit texts turn t lost within h unheard frames fine =
    let w : World = shadow_in Neutral lost t in
    let e : End = with_session (begun limit texts turn t.near.station) texts t.near in
    let request : Travelling = record { session = length t.near.sessions; load = enquiry } in
    let more = length_push t.near.sessions (new_session texts) in
    let same_texts : texts_of e ≡ texts =
    ap (λ (x : Session). x.texts) (at-more_last t.near.sessions (new_session texts)) in
    let asked : Holds limit (begins limit None texts w) = begins_holds limit texts w None fine h in
    let longer : length (units_of (t.outward ++ sent request ∷ [])) ≡ length (units_of t.outward) + 1 =
    ap length (units_of-append t.outward (sent request ∷ [])) ∙ length_push (units_of t.outward) request in
    record {
      lost = lost;
      lost_within = omega arith;
      holds = subst (λ us. Holds limit (record (begins limit None texts w) { units = us }))
          (sym (units_more lost t.outward request within)) asked;
      lost_unheard = unheard;
      lost_frames = subst (NoEnquiry limit) (sym (lost_more lost t.outward request within)) frames;
      in_order = ahead_of_units _ t.inward h.phase.no_reply;
      can_ask = record {
        sender_is = ap (started limit) (sym same_texts);
        not_refused = subst (λ ts. bad_texts ts ≡ None) (sym same_texts) fine;
        within = omega arith;
      };
    }

not_mapped : (fault : Option StartFault) → option_map Start fault ≡ None → fault ≡ None
not_mapped None e = refl
not_mapped (Some fault) e = absurd (cc)

-- a start that is not rejected
pub start_out :
    (limit : ℕ) (texts : List (List ℕ)) (t : TwoWay) (fault : Option StationFault)
    → station_fault t.near.station texts ≡ fault
    → HoldsOut limit t
    → HoldsOut limit (begins_out limit fault texts t)
start_out limit texts t (Some fault) is h = h
start_out limit texts t None is h =
    let free : start_fault t.near.station.sender texts ≡ None =
    asked_free t.near.station.receiver.is_open t.near.station texts is in
    let neutral : t.near.station.sender.phase ≡ Neutral = (can_start t.near.station.sender texts free).neutral in
    begun_out limit texts Free t h.lost h.lost_within
    (subst (λ p. Holds limit (shadow_in p h.lost t)) neutral h.holds) h.lost_unheard h.lost_frames
    (subst (λ p. start_fault_in p texts ≡ None) neutral free)
  where
    asked_free : (is_open : Bool) (s : StationState) (texts : List (List ℕ)) → station_fault_by is_open s texts ≡ None
        → start_fault s.sender texts ≡ None
    asked_free true s texts none = absurd (cc)
    asked_free false s texts none = not_mapped (start_fault s.sender texts) none
