-- What the program that plays events on a line keeps is the line of the definition.
use Rattle.std.proofs.Common.{IsOk, ◌≡◌, ◌≢◌, ℕ, zero, suc, Bool, true, false}
use Rattle.std.proofs.Common.{List, [], ◌∷◌, Option, None, Some, OnOk, ◌⊎◌, inl, inr}
use Rattle.std.proofs.Common.{refl, sym, ap, ◌∙◌, subst}
use Rattle.std.specs.Prelude.{Result, Ok, Err, IfOk}
use Rattle.lis_link.specs.Receiver.{ReceiverState}
use Rattle.lis_link.specs.Representation.{IsIn}
use Rattle.lis_link.specs.declared.sender.EmitOf.{EmitOf}
use Rattle.lis_link.specs.declared.sender.Phase.{Phase}
use Rattle.lis_link.specs.declared.sender.Phase.TheVariants as Phases
use Rattle.lis_station.specs.declared.station.AnswerOf.{AnswerOf}
use Rattle.lis_station.specs.declared.station.AnswerOf.TheVariants.{Emits, Hears}
use Rattle.lis_frame.specs.Frame.{FrameContent}
use Rattle.lis_frame.specs.Stream.{signal_after}
use Rattle.lis_frame.specs.declared.scanner.SignalOf.{SignalOf}
use Rattle.lis_frame.specs.declared.scanner.SignalOf.TheVariants.{Enq, Eot, Good, Bad}
use Rattle.lis_link.specs.declared.receiver.Note.{Note}
use Rattle.lis_link.specs.declared.receiver.Note.TheVariants.{Opened, Accepted, OutOfMemory}
use Rattle.lis_link.specs.declared.receiver.Step.{Step}
use Rattle.lis_text.specs.declared.readiness.Readiness.{Readiness}
use Rattle.lis_text.specs.declared.readiness.Readiness.TheVariants.{Ready}
use Rattle.lis_link.specs.Receiver.{ReceiverStep, heard, heard_by, on_byte, on_classified, classified, answered_request}
use Rattle.lis_link.specs.Sender.{on_sender_timer}
use Rattle.lis_station.specs.Station.{StationState, routed, asking, timed_by, station_restarted, awaits_reply}
use Rattle.lis_station.specs.Station as Stations
use Rattle.lis_station.specs.Representation.{KeptStation, station_at, IsStation, IsAnswer}
use Rattle.lis_station.specs.Line.{TwoWay, Item, sent, answered, after_line_event, followed_by, with_station}
use Rattle.lis_station.specs.Line.{emitted_out, noted, reply_out, steps, comes, sender_went, waits_no_more, happens}
use Rattle.lis_station.specs.Line.{StationEvent, restart, timed, sender_timed, turned, damaged_in, left_line}
use Rattle.lis_line.specs.declared.event.LineEvent.{LineEvent}
use Rattle.lis_line.specs.Events.{line_event, line_events}
use Rattle.lis_line.specs.inside.Kept.{KeptLine, KeptEnd, line_at, end_at, IsLine, IsPlaying, runs, kept_following}
use Rattle.lis_line.specs.inside.Kept.{kept_noted, kept_answered, kept_forgotten, kept_turned, kept_left, good_frame}
use Rattle.lis_line.specs.inside.Kept.{TakesIt, front_noise}

-- what is kept, with these states, is this line
pub line_is :
    (limit : ℕ) (kept : KeptLine) (r q : ReceiverState) (t : TwoWay)
    → IsIn limit kept.near.station.receiver r → IsIn limit kept.far.station.receiver q → line_at kept r q ≡ t
    → IsLine limit kept t
line_is limit kept r q t near far is =
    subst (λ u. IsLine limit kept u) is (record { near_is = near; far_is = far; line_is = refl })

-- what follows of a value, where there is one
pub if_ok : {A E : Type 0} {P Q : A → Type 0} (result : Result A E) → ((value : A) → P value → Q value)
    → IfOk result P → IfOk result Q
if_ok (Ok value) follows h = follows value h
if_ok (Err fault) follows h = tt

-- events, one by one
pub playing_next :
    {A X : Type 0} (outcome : Result A X) (limit : ℕ) (old new : KeptLine) (event : LineEvent)
    (left later : List LineEvent) (goal : TwoWay)
    → left ≡ event ∷ later
    → (playing : IsPlaying limit old (line_events left) goal)
    → OnOk outcome (IsLine limit new
    (after_line_event limit (line_event event) (line_at old playing.near playing.far)))
    → IsOk outcome
    → IsPlaying limit new (line_events later) goal
playing_next (Ok x) limit old new event left later goal e playing here is_ok =
    let t : TwoWay = after_line_event limit (line_event event) (line_at old playing.near playing.far) in
    record {
      near = t.near.station.receiver;
      far = t.far.station.receiver;
      near_is = here.near_is;
      far_is = here.far_is;
      goes_on =
          ap (runs limit (line_events later)) here.line_is
          ∙ ap (λ es. runs limit (line_events es) (line_at old playing.near playing.far)) (sym e)
          ∙ playing.goes_on;
    }
playing_next (Err x) limit old new event left later goal e playing here is_ok = absurd cc

-- all were played
pub played :
    (limit : ℕ) (kept : KeptLine) (left : List LineEvent) (goal : TwoWay)
    → IsPlaying limit kept (line_events left) goal
    → left ≡ []
    → (kept.near.sessions ≡ goal.near.sessions) × (kept.far.sessions ≡ goal.far.sessions)
played limit kept left goal playing none =
    let is : line_at kept playing.near playing.far ≡ goal =
    ap (λ es. runs limit (line_events es) (line_at kept playing.near playing.far)) (sym none) ∙ playing.goes_on in
    (ap (λ (t : TwoWay). t.near.sessions) is, ap (λ (t : TwoWay). t.far.sessions) is)

-- the near station is restarted, and its session follows
pub restarted_near :
    (limit : ℕ) (old forgot new : KeptLine) (restarted : KeptEnd) (r q : ReceiverState)
    → IsIn limit old.near.station.receiver r
    → IsIn limit old.far.station.receiver q
    → forgot ≡ kept_forgotten old
    → ((s : ReceiverState) → IsIn limit forgot.near.station.receiver s
    → IsStation limit restarted.station (station_restarted (station_at forgot.near.station s)))
    → restarted ≡ record forgot.near { station = restarted.station }
    → new ≡ record forgot { near = kept_following restarted }
    → IsLine limit new (happens limit restart (line_at old r q))
restarted_near limit old forgot new restarted r q near far forgets is_new same follows =
    let s : StationState = station_restarted (station_at old.near.station r) in
    let is : IsStation limit restarted.station s =
    subst (λ (k : KeptLine). IsStation limit restarted.station (station_restarted (station_at k.near.station r)))
    forgets (is_new r (subst (λ (k : KeptLine). IsIn limit k.near.station.receiver r) (sym forgets) near)) in
    let mid : KeptLine = kept_forgotten old in
    let after : KeptLine = record mid { near = kept_following (record mid.near { station = restarted.station }) } in
    let new_is : new ≡ after =
    follows
    ∙ ap (λ (e : KeptEnd). record forgot { near = kept_following e }) same
    ∙ ap (λ (k : KeptLine). record k { near = kept_following (record k.near { station = restarted.station }) })
    forgets in
    let goal : TwoWay = happens limit restart (line_at old r q) in
    subst (λ (k : KeptLine). IsLine limit k goal) (sym new_is)
    (line_is limit after s.receiver q goal is.receiver_is far
    (ap (λ (t : StationState). record (line_at mid r q) { near = followed_by t (end_at mid.near r) }) is.station_is))

-- the receiver's timer, while the line is open here
pub timed_here :
    (limit : ℕ) (is_open : Bool) (old came : KeptLine) (r q : ReceiverState) (answer : AnswerOf limit)
    → is_open ≡ true
    → IsIn limit old.far.station.receiver q
    → came ≡ record old { near = record old.near { station = came.near.station } }
    → IsAnswer limit old.near.station (timed_by {limit = limit} is_open (station_at old.near.station r)) answer
    came.near.station
    → IsLine limit came (timed limit is_open (line_at old r q))
timed_here limit false old came r q answer opened far same made = absurd cc
timed_here limit true old came r q (Emits emit) opened far same made = absurd made.answers
timed_here limit true old came r q (Hears step) opened far same made =
    let after : StationState = (timed_by {limit = limit} true (station_at old.near.station r)).after in
    line_is limit came after.receiver q (timed limit true (line_at old r q)) made.answers.state
    (subst (λ (k : KeptLine). IsIn limit k.far.station.receiver q) (sym same) far)
    (ap (λ (k : KeptLine). line_at k after.receiver q) same
    ∙ ap (λ (s : StationState). record (line_at old r q) { near = with_station s (end_at old.near r) }) made.station_is)

-- the sender's, while it is closed
pub timed_by_phase :
    (P : TwoWay → Type 0) (limit : ℕ) (is_open : Bool) (phase : Phase) (t : TwoWay)
    → is_open ≡ false
    → t.near.station.sender.phase ≡ phase
    → P (sender_timed limit phase t)
    → P (timed limit is_open t)
timed_by_phase P limit true phase t closed same is = absurd cc
timed_by_phase P limit false phase t closed same is = subst (λ p. P (sender_timed limit p t)) (sym same) is

pub timed_awaiting :
    (P : TwoWay → Type 0) (limit : ℕ) (is_open : Bool) (phase : Phase) (t : TwoWay)
    → is_open ≡ false
    → t.near.station.sender.phase ≡ phase
    → (phase ≡ Phases.AwaitLine) ⊎ (phase ≡ Phases.AwaitReply)
    → P (waits_no_more limit t)
    → P (timed limit is_open t)
timed_awaiting P limit is_open Phases.AwaitLine t closed same either is =
    timed_by_phase P limit is_open Phases.AwaitLine t closed same is
timed_awaiting P limit is_open Phases.AwaitReply t closed same either is =
    timed_by_phase P limit is_open Phases.AwaitReply t closed same is
timed_awaiting P limit is_open _ t closed same (inl e) is = absurd cc
timed_awaiting P limit is_open _ t closed same (inr e) is = absurd cc

-- seen from the other station
pub happens_there :
    {A E : Type 0} (outcome : Result A E) (limit : ℕ) (event : StationEvent) (old there came new : KeptLine)
    (r q : ReceiverState)
    → IsIn limit old.near.station.receiver r
    → IsIn limit old.far.station.receiver q
    → there ≡ kept_turned old
    → ((s u : ReceiverState) → IsIn limit there.near.station.receiver s → IsIn limit there.far.station.receiver u
    → OnOk outcome (IsLine limit came (happens limit event (line_at there s u))))
    → new ≡ kept_turned came
    → IsOk outcome
    → IsLine limit new (turned (happens limit event (turned (line_at old r q))))
happens_there (Ok x) limit event old there came new r q near far turns here back is_ok =
    let t : TwoWay = happens limit event (turned (line_at old r q)) in
    let is : IsLine limit came t =
    subst (λ (k : KeptLine). IsLine limit came (happens limit event (line_at k q r))) turns
    (here q r (subst (λ (k : KeptLine). IsIn limit k.near.station.receiver q) (sym turns) far)
    (subst (λ (k : KeptLine). IsIn limit k.far.station.receiver r) (sym turns) near)) in
    subst (λ (k : KeptLine). IsLine limit k (turned t)) (sym back)
    (line_is limit (kept_turned came) t.far.station.receiver t.near.station.receiver (turned t) is.far_is is.near_is
    (ap turned is.line_is))
happens_there (Err x) limit event old there came new r q near far turns here back is_ok = absurd cc

-- damage that is not noticed does nothing
pub not_noticed :
    (limit : ℕ) (bytes : List ℕ) (items : List Item) (t : TwoWay)
    → front_noise limit (awaits_reply t.near.station.sender.phase) items bytes t.near.station.receiver ≡ false
    → t ≡ damaged_in limit bytes items t
not_noticed limit bytes [] t e = refl
not_noticed limit bytes (front ∷ items) t e = rw e refl

-- the front item has left the line
pub left_is :
    (limit : ℕ) (item : Item) (kept : KeptLine) (t : TwoWay) → IsLine limit kept t
    → IsLine limit (kept_left item kept) (left_line item t)
left_is limit (sent unit) kept t is = record {
  near_is = is.near_is;
  far_is = is.far_is;
  line_is = ap (left_line (sent unit)) is.line_is;
}
left_is limit (answered b) kept t is = is

-- what was sent after a step of the sender
pub record IsSentOk (limit : ℕ) (came new : KeptLine) (emit : EmitOf limit) : Type 0 where
  pub near : new.near.station ≡ came.near.station
  pub far : new.far ≡ came.far
  pub line : (r q : ReceiverState) → line_at new r q ≡ emitted_out emit
      (record (line_at came r q) { near = followed_by (station_at came.near.station r) (end_at came.near r) })

abbrev pub IsSent : {A E : Type 0} → Result A E → (limit : ℕ) → KeptLine → KeptLine → EmitOf limit → Type 0
IsSent outcome limit came new emit = OnOk outcome (IsSentOk limit came new emit)

pub is_sent :
    {A E : Type 0} (outcome : Result A E) (limit : ℕ) (came new : KeptLine) (emit : EmitOf limit)
    → OnOk outcome (new.near.station ≡ came.near.station)
    → OnOk outcome (new.far ≡ came.far)
    → ((r q : ReceiverState) → OnOk outcome (line_at new r q ≡ emitted_out emit
    (record (line_at came r q) { near = followed_by (station_at came.near.station r) (end_at came.near r) })))
    → IsSent outcome limit came new emit
is_sent (Ok x) limit came new emit near far line = record { near = near; far = far; line = line }
is_sent (Err x) limit came new emit near far line = tt

-- the sender made a step: what it emits goes on the line
sent_line :
    (limit : ℕ) (old came new : KeptLine) (r q : ReceiverState) (after : StationState) (emit : EmitOf limit)
    → IsIn limit old.near.station.receiver r
    → IsIn limit old.far.station.receiver q
    → came ≡ record old { near = record old.near { station = came.near.station } }
    → station_at came.near.station r ≡ after
    → came.near.station.receiver ≡ old.near.station.receiver
    → IsSentOk limit came new emit
    → IsLine limit new (emitted_out emit (record (line_at old r q) { near = followed_by after (end_at old.near r) }))
sent_line limit old came new r q after emit near far same station_is receivers went =
    let here : line_at came r q ≡ record (line_at old r q) { near = with_station after (end_at old.near r) } =
    ap (λ k. line_at k r q) same
    ∙ ap (λ (s : StationState). record (line_at old r q) { near = with_station s (end_at old.near r) }) station_is in
    line_is limit new r q (emitted_out emit (record (line_at old r q) { near = followed_by after (end_at old.near r) }))
    (subst (λ (k : KeptStation). IsIn limit k.receiver r) (sym went.near)
    (subst (λ k. IsIn limit k r) (sym receivers) near))
    (subst (λ (k : KeptEnd). IsIn limit k.station.receiver q) (sym went.far)
    (subst (λ (k : KeptLine). IsIn limit k.far.station.receiver q) (sym same) far))
    (went.line r q
    ∙ ap (λ (t : TwoWay). emitted_out emit (record t { near = followed_by t.near.station t.near })) here)

-- a byte for the sender
pub emits_byte :
    {A E : Type 0} (outcome : Result A E) (limit b : ℕ) (awaits : Bool) (item : Item) (old came new : KeptLine)
    (r q : ReceiverState) (emit : EmitOf limit)
    → IsIn limit old.near.station.receiver r
    → IsIn limit old.far.station.receiver q
    → came ≡ record old { near = record old.near { station = came.near.station } }
    → IsAnswer limit old.near.station (routed limit awaits b (station_at old.near.station r)) (Emits emit)
    came.near.station
    → IsSent outcome limit came new emit
    → OnOk outcome (IsLine limit new
    (steps item (routed limit awaits b (station_at old.near.station r)) (line_at old r q)))
emits_byte (Ok x) limit b true item old came new r q emit near far same answer went =
    let step = routed limit true b (station_at old.near.station r) in
    subst (λ e. IsLine limit new (emitted_out e
    (record (line_at old r q) { near = followed_by step.after (end_at old.near r) }))) answer.answers.0
    (sent_line limit old came new r q step.after emit near far same answer.station_is answer.answers.1 went)
emits_byte (Ok x) limit b false item old came new r q emit near far same answer went = absurd answer.answers
emits_byte (Err x) limit b awaits item old came new r q emit near far same answer went = tt

-- the sender's timer, while the line is closed here
pub timed_out :
    {A E : Type 0} (outcome : Result A E) (limit : ℕ) (is_open : Bool) (old forgot came new : KeptLine)
    (r q : ReceiverState) (emit : EmitOf limit)
    → is_open ≡ false
    → IsIn limit old.near.station.receiver r
    → IsIn limit old.far.station.receiver q
    → forgot ≡ kept_forgotten old
    → came ≡ record forgot { near = record forgot.near { station = came.near.station } }
    → IsAnswer limit forgot.near.station (timed_by {limit = limit} is_open (station_at forgot.near.station r))
    (Emits emit) came.near.station
    → IsSent outcome limit came new emit
    → OnOk outcome (IsLine limit new (waits_no_more limit (line_at old r q)))
timed_out (Ok x) limit true old forgot came new r q emit closed near far forgets same answer went = absurd cc
timed_out (Ok x) limit false old forgot came new r q emit closed near far forgets same answer went =
    let step = timed_by {limit = limit} false (station_at forgot.near.station r) in
    let line : IsLine limit new (sender_went {limit = limit} (on_sender_timer forgot.near.station.sender) step.after
    (line_at forgot r q)) =
    subst (λ e. IsLine limit new (emitted_out e
    (record (line_at forgot r q) { near = followed_by step.after (end_at forgot.near r) }))) answer.answers.0
    (sent_line limit forgot came new r q step.after emit
    (subst (λ (k : KeptLine). IsIn limit k.near.station.receiver r) (sym forgets) near)
    (subst (λ (k : KeptLine). IsIn limit k.far.station.receiver q) (sym forgets) far)
    same answer.station_is answer.answers.1 went) in
    subst (λ (k : KeptLine). IsLine limit new (sender_went {limit = limit} (on_sender_timer k.near.station.sender)
    (timed_by {limit = limit} false (station_at k.near.station r)).after (line_at k r q))) forgets line
timed_out (Err x) limit is_open old forgot came new r q emit closed near far forgets same answer went = tt

-- damage that is comes in the place of the front item
noticed :
    (limit : ℕ) (bytes : List ℕ) (front : Item) (items : List Item) (t : TwoWay)
    → front_noise limit (awaits_reply t.near.station.sender.phase) (front ∷ items) bytes t.near.station.receiver ≡ true
    → left_line front (comes limit front bytes (record t { inward = items })) ≡ damaged_in limit bytes (front ∷ items) t
noticed limit bytes front items t e = rw e refl

pub damaged_next :
    {A E : Type 0} (outcome : Result A E) (limit : ℕ) (bytes : List ℕ) (front : Item) (items : List Item)
    (old popped came new : KeptLine) (r q : ReceiverState)
    → IsIn limit old.near.station.receiver r
    → IsIn limit old.far.station.receiver q
    → old.inward ≡ front ∷ items
    → popped ≡ record old { inward = items }
    → front_noise limit (awaits_reply old.near.station.sender.phase) old.inward bytes r ≡ true
    → ((s u : ReceiverState) → IsIn limit popped.near.station.receiver s → IsIn limit popped.far.station.receiver u
    → OnOk outcome (IsLine limit came (comes limit front bytes (line_at popped s u))))
    → new ≡ kept_left front came
    → IsOk outcome
    → IsLine limit new (damaged_in limit bytes old.inward (line_at old r q))
damaged_next (Ok x) limit bytes front items old popped came new r q near far inward_is popped_is noise here left is_ok =
    let t : TwoWay = line_at old r q in
    let came_is : IsLine limit came (comes limit front bytes (record t { inward = items })) =
    subst (λ (k : KeptLine). IsLine limit came (comes limit front bytes (line_at k r q))) popped_is
    (here r q (subst (λ (k : KeptLine). IsIn limit k.near.station.receiver r) (sym popped_is) near)
    (subst (λ (k : KeptLine). IsIn limit k.far.station.receiver q) (sym popped_is) far)) in
    let noise_is = subst (λ xs. front_noise limit (awaits_reply old.near.station.sender.phase) xs bytes r ≡ true)
    inward_is noise in
    subst (λ (k : KeptLine). IsLine limit k (damaged_in limit bytes old.inward t)) (sym left)
    (subst (λ xs. IsLine limit (kept_left front came) (damaged_in limit bytes xs t)) (sym inward_is)
    (subst (λ (u : TwoWay). IsLine limit (kept_left front came) u) (noticed limit bytes front items t noise_is)
    (left_is limit front came (comes limit front bytes (record t { inward = items })) came_is)))
damaged_next (Err x) limit bytes front items old popped came new r q near far inward_is popped_is noise here left
    is_ok = absurd cc

-- what is noted of a step, of what is kept
noted_is :
    (item : Item) (note : Note) (frame : Option FrameContent) (message : Option (List ℕ)) (meant : ReceiverStep)
    (kept : KeptLine) (r q : ReceiverState)
    → TakesIt note frame meant
    → message ≡ meant.message
    → line_at (kept_noted item note frame message kept) r q ≡ noted item meant note (line_at kept r q)
noted_is (sent unit) Opened frame message meant kept r q takes same = refl
noted_is (answered b) Opened frame message meant kept r q takes same = refl
noted_is item (Accepted n) (Some frame) message meant kept r q takes same = rw (takes, ← same) refl
noted_is item (Accepted n) None message meant kept r q takes same = absurd takes
noted_is item _ frame message meant kept r q takes same = refl

-- a reply, of what is kept
answered_is :
    (to_drop : ℕ) (reply : Option ℕ) (kept : KeptLine) (r q : ReceiverState)
    → line_at (kept_answered to_drop reply kept) r q ≡ reply_out to_drop reply (line_at kept r q)
answered_is zero (Some b) kept r q = refl
answered_is zero None kept r q = refl
answered_is (suc n) reply kept r q = refl

-- neither changes a receiver
noted_stays :
    (item : Item) (note : Note) (frame : Option FrameContent) (message : Option (List ℕ)) (kept : KeptLine)
    → ((kept_noted item note frame message kept).near.station ≡ kept.near.station)
    × ((kept_noted item note frame message kept).far.station ≡ kept.far.station)
noted_stays (sent unit) Opened frame message kept = (refl, refl)
noted_stays (answered b) Opened frame message kept = (refl, refl)
noted_stays item (Accepted n) (Some frame) message kept = (refl, refl)
noted_stays item (Accepted n) None message kept = (refl, refl)
noted_stays item _ frame message kept = (refl, refl)

answered_stays :
    (to_drop : ℕ) (reply : Option ℕ) (kept : KeptLine)
    → ((kept_answered to_drop reply kept).near.station ≡ kept.near.station)
    × ((kept_answered to_drop reply kept).far.station ≡ kept.far.station)
answered_stays zero (Some b) kept = (refl, refl)
answered_stays zero None kept = (refl, refl)
answered_stays (suc n) reply kept = (refl, refl)

stays :
    (item : Item) (note : Note) (frame : Option FrameContent) (message : Option (List ℕ)) (to_drop : ℕ)
    (reply : Option ℕ) (kept : KeptLine)
    → ((kept_answered to_drop reply (kept_noted item note frame message kept)).near.station.receiver
    ≡ kept.near.station.receiver)
    × ((kept_answered to_drop reply (kept_noted item note frame message kept)).far.station.receiver
    ≡ kept.far.station.receiver)
stays item note frame message to_drop reply kept =
    let after = answered_stays to_drop reply (kept_noted item note frame message kept) in
    let before = noted_stays item note frame message kept in (
      ap (λ (s : KeptStation). s.receiver) (after.0 ∙ before.0),
      ap (λ (s : KeptStation). s.receiver) (after.1 ∙ before.1),
    )

-- what a receiver takes is the frame that the byte ends
classified_takes : (r : ReceiverState) (frame : FrameContent) (note : Note)
    → TakesIt (on_classified r frame note).note (Some frame) (on_classified r frame note)
classified_takes r frame (Accepted n) = refl
classified_takes r frame _ = tt

asked_takes : (readiness : Readiness) (r : ReceiverState)
    → TakesIt (answered_request readiness r).note None (answered_request readiness r)
asked_takes Ready r = tt
asked_takes _ r = tt

heard_takes : {limit : ℕ} (is_open : Bool) (signal : SignalOf limit) (r : ReceiverState)
    → TakesIt (heard_by is_open signal r).note (good_frame (Some signal)) (heard_by is_open signal r)
heard_takes true Enq r = asked_takes r.readiness r
heard_takes true Eot r = tt
heard_takes true (Good frame) r = classified_takes r frame (classified r frame)
heard_takes true (Bad fault) r = tt
heard_takes false Enq r = asked_takes r.readiness r
heard_takes false _ r = tt

byte_takes : {limit : ℕ} (signal : Option (SignalOf limit)) (r : ReceiverState)
    → TakesIt (heard signal r).note (good_frame signal) (heard signal r)
byte_takes None r = tt
byte_takes (Some signal) r = heard_takes r.is_open signal r

-- also where this side asks for its turn
asking_takes : (note : Note) (frame : Option FrameContent) (step : ReceiverStep) (asks : Bool) → TakesIt note frame step
    → TakesIt note frame (asking asks step)
asking_takes (Accepted n) (Some frame) step asks takes = takes
asking_takes (Accepted n) None step asks takes = takes
asking_takes _ frame step asks takes = tt

-- a byte for the receiver
pub hears_byte :
    {A E : Type 0} (outcome : Result A E) (limit b : ℕ) (awaits : Bool) (item : Item) (old came new : KeptLine)
    (r q : ReceiverState) (frame : Option FrameContent) (step : Step)
    → IsIn limit old.near.station.receiver r
    → IsIn limit old.far.station.receiver q
    → came ≡ record old { near = record old.near { station = came.near.station } }
    → frame ≡ good_frame {limit = limit} (signal_after limit r.past b)
    → ((step.note ≡ OutOfMemory → ⊥) → IsAnswer limit old.near.station
    (routed limit awaits b (station_at old.near.station r)) (Hears step) came.near.station)
    → OnOk outcome (step.note ≢ OutOfMemory)
    → OnOk outcome (new ≡ kept_answered came.far.to_drop step.reply
    (kept_noted item step.note frame step.message came))
    → OnOk outcome (IsLine limit new
    (steps item (routed limit awaits b (station_at old.near.station r)) (line_at old r q)))
hears_byte (Ok x) limit b true item old came new r q frame step near far same ended answer memory went =
    absurd (answer memory).answers
hears_byte (Ok x) limit b false item old came new r q frame step near far same ended answer memory went =
    let meant : ReceiverStep = asking old.near.station.asks_turn (on_byte limit b r) in
    let after : StationState =
    (Stations.heard {limit = limit} (on_byte limit b r) (station_at old.near.station r)).after in
    let made = (answer memory).answers in
    let station_is = (answer memory).station_is in
    let t : TwoWay = record (line_at old r q) { near = with_station after (end_at old.near r) } in
    let here : line_at came meant.after q ≡ t =
    ap (λ (k : KeptLine). line_at k meant.after q) same
    ∙ ap (λ (s : StationState). record (line_at old r q) { near = with_station s (end_at old.near r) }) station_is in
    let takes : TakesIt step.note frame meant =
    subst (λ note. TakesIt note frame meant) (sym made.answer.note_is)
    (subst (λ f. TakesIt meant.note f meant) (sym ended)
    (asking_takes meant.note (good_frame {limit = limit} (signal_after limit r.past b)) (on_byte limit b r)
    old.near.station.asks_turn
    (byte_takes {limit = limit} (signal_after limit r.past b) (record r { past = b ∷ r.past })))) in
    let drop_is : came.far.to_drop ≡ old.far.to_drop = ap (λ (k : KeptLine). k.far.to_drop) same in
    line_is limit new meant.after q
    (steps item (routed limit false b (station_at old.near.station r)) (line_at old r q))
    (subst (λ (k : KeptLine). IsIn limit k.near.station.receiver meant.after) (sym went)
    (subst (λ k. IsIn limit k meant.after)
    (sym (stays item step.note frame step.message came.far.to_drop step.reply came).0)
    made.state))
    (subst (λ (k : KeptLine). IsIn limit k.far.station.receiver q) (sym went)
    (subst (λ k. IsIn limit k q) (sym (stays item step.note frame step.message came.far.to_drop step.reply came).1)
    (subst (λ (k : KeptLine). IsIn limit k.far.station.receiver q) (sym same) far)))
    (ap (λ (k : KeptLine). line_at k meant.after q) went
    ∙ answered_is came.far.to_drop step.reply (kept_noted item step.note frame step.message came) meant.after q
    ∙ ap (λ (u : TwoWay). reply_out came.far.to_drop step.reply u)
    (noted_is item step.note frame step.message meant came meant.after q takes made.answer.message_is)
    ∙ rw (here, drop_is, made.answer.reply_is, made.answer.note_is) refl)
hears_byte (Err x) limit b awaits item old came new r q frame step near far same ended answer memory went = tt
