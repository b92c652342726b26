-- What a careful station hears is what one as the profile has it hears of other bytes.
use Rattle.std.proofs.Common.{◌≡◌, ℕ, zero, suc, Bool, true, false, List, [], ◌∷◌, Option, None, Some, refl, ap, sym}
use Rattle.std.proofs.Common.{◌∙◌, subst}
use Rattle.std.specs.Prelude.{◌==◌, ◌||◌, ◌&&◌}
use Rattle.std.specs.Option.{option_map}
use Rattle.std.proofs.lemmas.Bool.{cond_both, or_parts}
use Rattle.lis_text.specs.Control.{STX, ENQ, EOT, ACK, NAK}
use Rattle.lis_frame.specs.declared.scanner.SignalOf.{SignalOf}
use Rattle.lis_frame.specs.declared.scanner.SignalOf.TheVariants.{Enq, Eot, Good, Bad}
use Rattle.lis_frame.specs.Stream.{open_body, signal_after, signals_after, with_signal}
use Rattle.lis_link.specs.declared.receiver.Note.{Note}
use Rattle.lis_link.specs.declared.receiver.Note.TheVariants.{Quiet, Opened, Accepted}
use Rattle.lis_link.specs.declared.sender.EmitOf.{EmitOf}
use Rattle.lis_link.specs.declared.sender.EmitOf.TheVariants as Emits
use Rattle.lis_link.specs.Receiver.{ReceiverState, ReceiverStep, answers, on_byte, heard as receiver_heard, heard_by}
use Rattle.lis_link.specs.Receiver.{with_heard}
use Rattle.lis_careful.specs.Careful.{DLE, ends_session, heard_as, careful_by, session_ended}
use Rattle.lis_careful.specs.inside.Hearing.{AreUnspecial, is_special}
use Rattle.lis_careful.specs.World.{CarefulSignal, ends, gives, careful_signal_by, careful_signals, with_heard_first}
use Rattle.lis_careful.proofs.Receiving.{on_byte-past, open_then, unspecial_step}
use Rattle.lis_careful.proofs.Heard.{no_end, given_of, later_no_end, given_first, closed, rest_is}
use Rattle.lis_station.specs.declared.station.Turn.TheVariants.{Free}
use Rattle.lis_station.specs.Station.{StationState, awaits_reply, asking, heard, reply_step, replied, routed}
use Rattle.lis_station.specs.Station.{on_station_byte}
use Rattle.lis_station.specs.Line.{Item, sent, answered, TwoWay, followed_by, with_station, emitted_out, noted}
use Rattle.lis_station.specs.Line.{reply_out}
use Rattle.lis_station.specs.Line.{steps, comes, room_near, has_byte}
use Rattle.lis_station.proofs.Noise.{quiet_byte, no_reply_out}
use Rattle.lis_careful_station.specs.Station.{routed_carefully, on_station_byte_carefully}
use Rattle.lis_careful_station.proofs.Pinned.{as_reply, as_ended, other_is}
use Rattle.lis_careful_line.specs.Line.{comes_carefully}

-- ---- the station after a step

noted_station : (item : Item) (step : ReceiverStep) (note : Note) (t : TwoWay)
    → (noted item step note t).near.station ≡ t.near.station
noted_station (sent unit) step Opened t = refl
noted_station (sent unit) step (Accepted n) t = refl
noted_station (answered b) step (Accepted n) t = refl
noted_station (sent unit) step _ t = refl
noted_station (answered b) step _ t = refl

reply_station : (to_drop : ℕ) (reply : Option ℕ) (t : TwoWay)
    → (reply_out to_drop reply t).near.station ≡ t.near.station
reply_station zero (Some b) t = refl
reply_station zero None t = refl
reply_station (suc n) reply t = refl

pub emitted_station : {limit : ℕ} (emit : EmitOf limit) (t : TwoWay)
    → (emitted_out emit t).near.station ≡ t.near.station
emitted_station Emits.Nothing t = refl
emitted_station Emits.Enq t = refl
emitted_station Emits.Eot t = refl
emitted_station Emits.Nak t = refl
emitted_station (Emits.Frame frame) t = refl

pub heard_station : (limit : ℕ) (item : Item) (step : ReceiverStep) (t : TwoWay)
    → (steps item (heard {limit = limit} step t.near.station) t).near.station
    ≡ (heard {limit = limit} step t.near.station).after
heard_station limit item step t =
    let given : ReceiverStep = asking t.near.station.asks_turn step in
    let t1 : TwoWay = record t { near = with_station (heard {limit = limit} step t.near.station).after t.near } in
    reply_station t.far.to_drop given.reply (noted item given given.note t1) ∙ noted_station item given given.note t1

-- while no reply is awaited
at_rest : (limit b : ℕ) (item : Item) (t : TwoWay) → awaits_reply t.near.station.sender.phase ≡ false
    → (steps item (on_station_byte limit b t.near.station) t).near.station
    ≡ (heard {limit = limit} (on_byte limit b t.near.station.receiver) t.near.station).after
at_rest limit b item t rests =
    ap (λ a. (steps item (routed limit a b t.near.station) t).near.station) rests
    ∙ heard_station limit item (on_byte limit b t.near.station.receiver) t

-- ---- bytes that are heard as themselves

unspecial_byte : (limit b : ℕ) (s : StationState) → is_special b ≡ false
    → on_station_byte_carefully limit b s ≡ on_station_byte limit b s
unspecial_byte limit b s plain = by (awaits_reply s.sender.phase)
  where
    by : (awaits : Bool) → routed_carefully limit awaits b s ≡ routed limit awaits b s
    by true = refl
    by false = ap (λ step. heard {limit = limit} step s) (unspecial_step limit b s.receiver plain)

pub unspecial_comes : (limit : ℕ) (item : Item) (bytes : List ℕ) (t : TwoWay) → AreUnspecial bytes
    → comes_carefully limit item bytes t ≡ comes limit item bytes t
unspecial_comes limit item [] t plain = refl
unspecial_comes limit item (b ∷ bytes) t plain =
    ap (λ step. comes_carefully limit item bytes (steps item step t)) (unspecial_byte limit b t.near.station plain.0)
    ∙ unspecial_comes limit item bytes (steps item (on_station_byte limit b t.near.station) t) plain.1

-- ---- bytes that don't end the session

-- a byte, and the bytes after it
record Goes (limit b : ℕ) (bytes : List ℕ) (r : ReceiverState) : Type 0 where
  pub goes : ends_session r b ≡ false
  pub later : no_end (careful_signals limit bytes (on_byte limit (heard_as (open_body r.past) b) r).after) ≡ true
  pub given : given_of (careful_signals limit (b ∷ bytes) r)
      ≡ with_signal (signal_after limit r.past (heard_as (open_body r.past) b))
      (given_of (careful_signals limit bytes (on_byte limit (heard_as (open_body r.past) b) r).after))

first_goes : (limit b : ℕ) (bytes : List ℕ) (r : ReceiverState)
    → no_end (careful_signals limit (b ∷ bytes) r) ≡ true → Goes limit b bytes r
first_goes limit b bytes r e = by (ends_session r b) refl
  where
    by : (test : Bool) → ends_session r b ≡ test → Goes limit b bytes r
    by true is =
        let never : no_end (with_heard_first (careful_signal_by true (signal_after limit r.past
        (heard_as (open_body r.past) b))) (careful_signals limit bytes (careful_by true limit b r).after)) ≡ true =
        subst (λ t. no_end (with_heard_first (careful_signal_by t (signal_after limit r.past
        (heard_as (open_body r.past) b))) (careful_signals limit bytes (careful_by t limit b r).after)) ≡ true) is e in
        absurd (cc)
    by false is = record {
      goes = is;
      later = later_no_end (signal_after limit r.past (heard_as (open_body r.past) b))
          (careful_signals limit bytes (on_byte limit (heard_as (open_body r.past) b) r).after)
          (subst (λ t. no_end (with_heard_first (careful_signal_by t (signal_after limit r.past
          (heard_as (open_body r.past) b))) (careful_signals limit bytes (careful_by t limit b r).after)) ≡ true) is e);
      given =
          ap (λ t. given_of (with_heard_first (careful_signal_by t (signal_after limit r.past
          (heard_as (open_body r.past) b))) (careful_signals limit bytes (careful_by t limit b r).after))) is
          ∙ sym (given_first (signal_after limit r.past (heard_as (open_body r.past) b))
          (careful_signals limit bytes (on_byte limit (heard_as (open_body r.past) b) r).after));
    }

-- the bytes that are heard as these are
pub record AsHeard (limit : ℕ) (item : Item) (after : TwoWay) (signals : List (CarefulSignal limit)) (t : TwoWay) :
    Type 0 where
  pub bytes : List ℕ
  pub same : after ≡ comes limit item bytes t
  pub signals_are : signals_after limit t.near.station.receiver.past bytes ≡ given_of signals

pub plainly : (limit : ℕ) (item : Item) (bytes : List ℕ) (t : TwoWay)
    → awaits_reply t.near.station.sender.phase ≡ false
    → no_end (careful_signals limit bytes t.near.station.receiver) ≡ true
    → AsHeard limit item (comes_carefully limit item bytes t) (careful_signals limit bytes t.near.station.receiver) t
plainly limit item [] t rests e = record { bytes = []; same = refl; signals_are = refl }
plainly limit item (b ∷ bytes) t rests e =
    let r : ReceiverState = t.near.station.receiver in
    let c : ℕ = heard_as (open_body r.past) b in
    let first = first_goes limit b bytes r e in
    let next : TwoWay = steps item (on_station_byte limit c t.near.station) t in
    let next_is = at_rest limit c item t rests in
    let receiver_is : next.near.station.receiver ≡ (on_byte limit c r).after =
    ap (λ (s : StationState). s.receiver) next_is in
    let past_is : next.near.station.receiver.past ≡ c ∷ r.past =
    ap (λ (q : ReceiverState). q.past) receiver_is ∙ on_byte-past limit c r in
    let later = plainly limit item bytes next
    (ap (λ (s : StationState). awaits_reply s.sender.phase) next_is ∙ rests)
    (subst (λ (q : ReceiverState). no_end (careful_signals limit bytes q) ≡ true) (sym receiver_is) first.later) in
    record {
      bytes = c ∷ later.bytes;
      same =
          ap (λ step. comes_carefully limit item bytes (steps item step t))
          (other_is limit b t.near.station rests first.goes) ∙ later.same;
      signals_are =
          ap (with_signal (signal_after limit r.past c))
          (ap (λ p. signals_after limit p later.bytes) (sym past_is) ∙ later.signals_are
          ∙ ap (λ (q : ReceiverState). given_of (careful_signals limit bytes q)) receiver_is)
          ∙ sym first.given;
    }

-- ---- the end of a session

abbrev pub closed_here : StationState → StationState
closed_here s = record s { receiver = closed s.receiver; turn = Free; asks_turn = false }

abbrev pub closed_line : TwoWay → TwoWay
closed_line t = record t { near = with_station (closed_here t.near.station) t.near }

pub end_step : (limit b : ℕ) (item : Item) (t : TwoWay) → awaits_reply t.near.station.sender.phase ≡ false
    → ends_session t.near.station.receiver b ≡ true
    → steps item (on_station_byte_carefully limit b t.near.station) t ≡ closed_line t
end_step limit b item t rests ended_by =
    ap (λ step. steps item step t) (as_ended limit b t.near.station rests ended_by) ∙ go item
  where
    go : (item : Item)
        → steps item (heard {limit = limit} (session_ended t.near.station.receiver) t.near.station) t ≡ closed_line t
    go (sent u) = no_reply_out t.far.to_drop (closed_line t)
    go (answered c) = no_reply_out t.far.to_drop (closed_line t)

-- a byte without a signal is added to the stream
abbrev with_byte : ℕ → TwoWay → TwoWay
with_byte b t = record t {
  near = with_station (record t.near.station { receiver = with_heard (b ∷ []) t.near.station.receiver }) t.near;
}

silent_step : (limit b : ℕ) (item : Item) (t : TwoWay) → awaits_reply t.near.station.sender.phase ≡ false
    → signal_after limit t.near.station.receiver.past b ≡ None
    → steps item (on_station_byte limit b t.near.station) t ≡ with_byte b t
silent_step limit b item t rests none =
    ap (λ a. steps item (routed limit a b t.near.station) t) rests
    ∙ ap (λ signal. steps item (heard {limit = limit}
    (receiver_heard {limit = limit} signal (with_heard (b ∷ []) t.near.station.receiver)) t.near.station) t) none
    ∙ go item
  where
    go : (item : Item)
        → steps item (heard {limit = limit} (answers None Quiet (with_heard (b ∷ []) t.near.station.receiver))
        t.near.station) t ≡ with_byte b t
    go (sent u) = no_reply_out t.far.to_drop (with_byte b t)
    go (answered c) = no_reply_out t.far.to_drop (with_byte b t)

-- a session that ends, and then bytes that give no signal
pub record EndsThen (limit : ℕ) (item : Item) (after t : TwoWay) : Type 0 where
  pub bytes : List ℕ
  pub same : after ≡ comes limit item bytes (closed_line t)
  pub silent : signals_after limit [] bytes ≡ []
  pub was_open : t.near.station.receiver.is_open ≡ true

none_first : {limit : ℕ} (signal : Option (SignalOf limit)) (rest : List (CarefulSignal limit))
    → with_heard_first (option_map gives signal) rest ≡ ends ∷ [] → signal ≡ None
none_first None rest e = refl
none_first (Some signal) rest e = cc

pub ended : (limit : ℕ) (item : Item) (bytes : List ℕ) (t : TwoWay)
    → awaits_reply t.near.station.sender.phase ≡ false
    → careful_signals limit bytes t.near.station.receiver ≡ ends ∷ []
    → EndsThen limit item (comes_carefully limit item bytes t) t
ended limit item [] t rests e = cc
ended limit item (b ∷ bytes) t rests e =
    by (ends_session t.near.station.receiver b) refl (λ next at one. ended limit item bytes next at one)
  where
    signals_if : Bool → List (CarefulSignal limit)
    signals_if test = with_heard_first (careful_signal_by test (signal_after limit t.near.station.receiver.past
        (heard_as (open_body t.near.station.receiver.past) b)))
        (careful_signals limit bytes (careful_by test limit b t.near.station.receiver).after)

    by : (test : Bool) → ends_session t.near.station.receiver b ≡ test
        → ((next : TwoWay) → awaits_reply next.near.station.sender.phase ≡ false
        → careful_signals limit bytes next.near.station.receiver ≡ ends ∷ []
        → EndsThen limit item (comes_carefully limit item bytes next) next)
        → EndsThen limit item (comes_carefully limit item (b ∷ bytes) t) t
    by true is rest_ends =
        let none : careful_signals limit bytes (closed t.near.station.receiver) ≡ [] =
        rest_is _ (subst (λ test. signals_if test ≡ ends ∷ []) is e) in
        let later = plainly limit item bytes (closed_line t) rests
        (subst (λ (xs : List (CarefulSignal limit)). no_end xs ≡ true) (sym none) refl) in
        record {
          bytes = later.bytes;
          same = ap (comes_carefully limit item bytes) (end_step limit b item t rests is) ∙ later.same;
          silent = later.signals_are ∙ ap given_of none;
          was_open = open_then t.near.station.receiver.is_open (b == ENQ || b == EOT) is;
        }
    by false is rest_ends =
        let c : ℕ = heard_as (open_body t.near.station.receiver.past) b in
        let r1 : ReceiverState = with_heard (c ∷ []) t.near.station.receiver in
        let plain = subst (λ test. signals_if test ≡ ends ∷ []) is e in
        let none = none_first (signal_after limit t.near.station.receiver.past c)
        (careful_signals limit bytes (on_byte limit c t.near.station.receiver).after) plain in
        let one : careful_signals limit bytes r1 ≡ ends ∷ [] =
        subst (λ (signal : Option (SignalOf limit)). with_heard_first (option_map gives signal)
        (careful_signals limit bytes (receiver_heard signal r1).after) ≡ ends ∷ []) none plain in
        let later = rest_ends (with_byte c t) rests one in
        record {
          bytes = later.bytes;
          same =
              ap (λ step. comes_carefully limit item bytes (steps item step t))
              (other_is limit b t.near.station rests is)
              ∙ ap (comes_carefully limit item bytes) (silent_step limit c item t rests none) ∙ later.same;
          silent = later.silent;
          was_open = later.was_open;
        }

-- ---- bad frames alone are heard the same with room and without it

abbrev pub OnlyBad : {limit : ℕ} → List (SignalOf limit) → Type 0
OnlyBad [] = Unit {0}
OnlyBad (Enq ∷ signals) = ⊥
OnlyBad (Eot ∷ signals) = ⊥
OnlyBad (Good frame ∷ signals) = ⊥
OnlyBad (Bad fault ∷ signals) = OnlyBad signals

abbrev BadAtMost : {limit : ℕ} → Option (SignalOf limit) → Type 0
BadAtMost None = Unit {0}
BadAtMost (Some Enq) = ⊥
BadAtMost (Some Eot) = ⊥
BadAtMost (Some (Good frame)) = ⊥
BadAtMost (Some (Bad fault)) = Unit {0}

bad_parts : {limit : ℕ} (signal : Option (SignalOf limit)) (rest : List (SignalOf limit))
    → OnlyBad (with_signal signal rest) → BadAtMost signal × OnlyBad rest
bad_parts None rest only = (tt, only)
bad_parts (Some Enq) rest only = absurd only
bad_parts (Some Eot) rest only = absurd only
bad_parts (Some (Good frame)) rest only = absurd only
bad_parts (Some (Bad fault)) rest only = (tt, only)

abbrev rejects : {limit : ℕ} → Bool → Option (SignalOf limit) → Option ℕ
rejects is_open None = None
rejects true (Some signal) = Some NAK
rejects false (Some signal) = None

abbrev after_byte : ℕ → Option ℕ → TwoWay → TwoWay
after_byte b reply t = reply_out t.far.to_drop reply (with_byte b t)

bad_step : (limit b : ℕ) (item : Item) (t : TwoWay) → awaits_reply t.near.station.sender.phase ≡ false
    → BadAtMost (signal_after limit t.near.station.receiver.past b)
    → steps item (on_station_byte limit b t.near.station) t
    ≡ after_byte b (rejects t.near.station.receiver.is_open (signal_after limit t.near.station.receiver.past b)) t
bad_step limit b item t rests bad =
    ap (λ a. steps item (routed limit a b t.near.station) t) rests
    ∙ at_signal (signal_after limit t.near.station.receiver.past b) bad
  where
    r1 : ReceiverState
    r1 = with_heard (b ∷ []) t.near.station.receiver

    at_open : (item : Item) (is_open : Bool) (signal : SignalOf limit) → BadAtMost (Some signal)
        → steps item (heard {limit = limit} (heard_by is_open signal r1) t.near.station) t
        ≡ after_byte b (rejects is_open (Some signal)) t
    at_open item is_open Enq bad = absurd bad
    at_open item is_open Eot bad = absurd bad
    at_open item is_open (Good frame) bad = absurd bad
    at_open (sent u) true (Bad fault) bad = refl
    at_open (answered c) true (Bad fault) bad = refl
    at_open (sent u) false (Bad fault) bad = refl
    at_open (answered c) false (Bad fault) bad = refl

    quiet : (item : Item)
        → steps item (heard {limit = limit} (answers None Quiet r1) t.near.station) t ≡ after_byte b None t
    quiet (sent u) = refl
    quiet (answered c) = refl

    at_signal : (signal : Option (SignalOf limit)) → BadAtMost signal
        → steps item (heard {limit = limit} (receiver_heard signal r1) t.near.station) t
        ≡ after_byte b (rejects t.near.station.receiver.is_open signal) t
    at_signal None bad = quiet item
    at_signal (Some signal) bad = at_open item t.near.station.receiver.is_open signal bad

room_reply : (room : Bool) (to_drop : ℕ) (reply : Option ℕ) (t : TwoWay)
    → room_near room (reply_out to_drop reply t) ≡ reply_out to_drop reply (room_near room t)
room_reply room zero (Some b) t = refl
room_reply room zero None t = refl
room_reply room (suc n) reply t = refl

pub room_comes : (limit : ℕ) (room : Bool) (item : Item) (bytes : List ℕ) (t : TwoWay)
    → awaits_reply t.near.station.sender.phase ≡ false
    → OnlyBad (signals_after limit t.near.station.receiver.past bytes)
    → room_near room (comes limit item bytes t) ≡ comes limit item bytes (room_near room t)
room_comes limit room item [] t rests only = refl
room_comes limit room item (b ∷ bytes) t rests only =
    let signal : Option (SignalOf limit) = signal_after limit t.near.station.receiver.past b in
    let parts = bad_parts signal (signals_after limit (b ∷ t.near.station.receiver.past) bytes) only in
    let reply : Option ℕ = rejects t.near.station.receiver.is_open signal in
    let next : TwoWay = after_byte b reply t in
    let station_is : next.near.station ≡ (with_byte b t).near.station =
    reply_station t.far.to_drop reply (with_byte b t) in
    ap (λ x. room_near room (comes limit item bytes x)) (bad_step limit b item t rests parts.0)
    ∙ room_comes limit room item bytes next
    (ap (λ (s : StationState). awaits_reply s.sender.phase) station_is ∙ rests)
    (subst (λ (s : StationState). OnlyBad (signals_after limit s.receiver.past bytes)) (sym station_is) parts.1)
    ∙ ap (comes limit item bytes) (room_reply room t.far.to_drop reply (with_byte b t))
    ∙ ap (comes limit item bytes) (sym (bad_step limit b item (room_near room t) rests parts.0))

-- ---- noise to a sender that awaits a reply

abbrev open_here : TwoWay → Bool
open_here t = t.near.station.receiver.is_open

-- a receiver whose line is closed stays so
sender_shut : (limit b : ℕ) (item : Item) (t : TwoWay) → t.near.station.receiver.is_open ≡ false
    → (steps item (replied {limit = limit} b t.near.station) t).near.station.receiver.is_open ≡ false
sender_shut limit b item t shut =
    ap (λ (s : StationState). s.receiver.is_open)
    (emitted_station (reply_step {limit = limit} b t.near.station.sender).emit
    (record t { near = followed_by (replied {limit = limit} b t.near.station).after t.near })) ∙ shut

quiet_shut : (limit b : ℕ) (item : Item) (t : TwoWay) → t.near.station.receiver.is_open ≡ false → (ENQ == b) ≡ false
    → open_here (steps item (heard {limit = limit} (on_byte limit b t.near.station.receiver) t.near.station) t) ≡ false
quiet_shut limit b item t shut other =
    ap (λ (s : StationState). s.receiver.is_open)
    (heard_station limit item (on_byte limit b t.near.station.receiver) t)
    ∙ ap (λ (step : ReceiverStep). step.after.is_open) (quiet_byte limit b t.near.station.receiver shut other) ∙ shut

pub awaited_shut : (limit b : ℕ) (item : Item) (t : TwoWay) → awaits_reply t.near.station.sender.phase ≡ true
    → t.near.station.receiver.is_open ≡ false
    → (steps item (on_station_byte limit b t.near.station) t).near.station.receiver.is_open ≡ false
awaited_shut limit b item t awaits shut =
    ap (λ a. (steps item (routed limit a b t.near.station) t).near.station.receiver.is_open) awaits
    ∙ sender_shut limit b item t shut

byte_shut : (limit b : ℕ) (item : Item) (t : TwoWay) → t.near.station.receiver.is_open ≡ false → (ENQ == b) ≡ false
    → (steps item (on_station_byte limit b t.near.station) t).near.station.receiver.is_open ≡ false
byte_shut limit b item t shut other = by (awaits_reply t.near.station.sender.phase)
  where
    by : (awaits : Bool)
        → (steps item (routed limit awaits b t.near.station) t).near.station.receiver.is_open ≡ false
    by true = sender_shut limit b item t shut
    by false = quiet_shut limit b item t shut other

heard_other : (k b : ℕ) (within : Option (List ℕ)) → (k == DLE) ≡ false → (k == b) ≡ false
    → (k == heard_as within b) ≡ false
heard_other k b None never other = other
heard_other k b (Some body) never other =
    cond_both (b == STX) DLE b (λ c. (k == c) ≡ false) (λ is. never) (λ is. other)

-- the byte that is heard, and the step
record HeardShut (limit b : ℕ) (s : StationState) : Type 0 where
  pub byte : ℕ
  pub step_is : on_station_byte_carefully limit b s ≡ on_station_byte limit byte s
  pub no_enquiry : (ENQ == byte) ≡ false
  pub no_ack : (ACK == byte) ≡ false

heard_shut : (limit b : ℕ) (s : StationState) → s.receiver.is_open ≡ false → (ENQ == b) ≡ false → (ACK == b) ≡ false
    → HeardShut limit b s
heard_shut limit b s shut no_enquiry no_ack = by (awaits_reply s.sender.phase) refl
  where
    by : (awaits : Bool) → awaits_reply s.sender.phase ≡ awaits → HeardShut limit b s
    by true is = record {
      byte = b;
      step_is = sym (as_reply limit b s is);
      no_enquiry = no_enquiry;
      no_ack = no_ack;
    }
    by false is =
        let within : Option (List ℕ) = open_body s.receiver.past in
        record {
          byte = heard_as within b;
          step_is = other_is limit b s is (ap (λ o. o && (b == ENQ || b == EOT)) shut);
          no_enquiry = heard_other ENQ b within refl no_enquiry;
          no_ack = heard_other ACK b within refl no_ack;
        }

pub record ShutHeard (limit : ℕ) (item : Item) (after t : TwoWay) : Type 0 where
  pub bytes : List ℕ
  pub same : after ≡ comes limit item bytes t
  pub lacks_enquiry : has_byte ENQ bytes ≡ false
  pub lacks_ack : has_byte ACK bytes ≡ false

pub shut_comes : (limit : ℕ) (item : Item) (bytes : List ℕ) (t : TwoWay) → t.near.station.receiver.is_open ≡ false
    → has_byte ENQ bytes ≡ false → has_byte ACK bytes ≡ false
    → ShutHeard limit item (comes_carefully limit item bytes t) t
shut_comes limit item [] t shut no_enquiry no_ack =
    record { bytes = []; same = refl; lacks_enquiry = refl; lacks_ack = refl }
shut_comes limit item (b ∷ bytes) t shut no_enquiry no_ack =
    let enquiries = or_parts (ENQ == b) (has_byte ENQ bytes) no_enquiry in
    let acks = or_parts (ACK == b) (has_byte ACK bytes) no_ack in
    let first = heard_shut limit b t.near.station shut enquiries.0 acks.0 in
    let next : TwoWay = steps item (on_station_byte limit first.byte t.near.station) t in
    let later = shut_comes limit item bytes next (byte_shut limit first.byte item t shut first.no_enquiry) enquiries.1
    acks.1 in
    record {
      bytes = first.byte ∷ later.bytes;
      same = ap (λ step. comes_carefully limit item bytes (steps item step t)) first.step_is ∙ later.same;
      lacks_enquiry = ap (λ t. t || has_byte ENQ later.bytes) first.no_enquiry ∙ later.lacks_enquiry;
      lacks_ack = ap (λ t. t || has_byte ACK later.bytes) first.no_ack ∙ later.lacks_ack;
    }
