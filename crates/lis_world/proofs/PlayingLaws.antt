-- What the program that plays events keeps is the computer's side of the definition.
use Rattle.std.proofs.Common.{IsOk, ◌≡◌, ◌≢◌, ℕ, suc, ◌+◌, Bool, true, false, List, [], ◌∷◌, Option, None, Some, OnOk}
use Rattle.std.proofs.Common.{drop, refl, sym, ap, ◌∙◌, subst, arith}
use Rattle.std.specs.Prelude.{Result, Ok, Err, IfOk}
use Rattle.lis_text.specs.Control.{ENQ, EOT}
use Rattle.lis_frame.specs.declared.scanner.SignalOf.{SignalOf}
use Rattle.lis_frame.specs.declared.scanner.SignalOf.TheVariants.{Enq, Eot, Good, Bad}
use Rattle.lis_frame.specs.Frame.{FrameContent, IsContent, frame_bytes}
use Rattle.lis_frame.specs.Stream.{signal_after, signals_after, with_signal}
use Rattle.lis_frame.proofs.StreamLaws.{signals-frame_bytes}
use Rattle.lis_link.specs.declared.receiver.Hearing.{Hearing}
use Rattle.lis_text.specs.declared.readiness.Readiness.{Readiness}
use Rattle.lis_text.specs.declared.readiness.Readiness.TheVariants.{Ready}
use Rattle.lis_link.specs.declared.receiver.Note.{Note}
use Rattle.lis_link.specs.declared.receiver.Note.TheVariants.{Accepted, OutOfMemory, Quiet}
use Rattle.lis_link.specs.declared.receiver.Step.{Step}
use Rattle.lis_link.specs.Receiver.{ReceiverState, ReceiverStep, ReceiverHearing, answered_request, classified}
use Rattle.lis_link.specs.Receiver.{on_classified, heard_by}
use Rattle.lis_link.specs.Receiver.{heard, on_byte, on_bytes, heard_on, with_heard, with_room}
use Rattle.lis_link.specs.Kept.{Kept}
use Rattle.lis_link.specs.Representation.{IsIn, IsStep, IsStepMade}
use Rattle.lis_link.proofs.HearingLaws.{on_byte-quiet}
use Rattle.lis_world.proofs.Heard.{heard_leaves, booked_after}
use Rattle.lis_world.specs.Unit.{Load, one_frame}
use Rattle.lis_world.specs.World.{World, ComputerState, booked, hears}
use Rattle.lis_world.specs.Steps.{delivered, room_at}
use Rattle.lis_world.specs.inside.Playing.{KeptWorld, world_at, IsWorld, IsPlaying, run_by, KeptComputerState}
use Rattle.lis_world.specs.inside.Playing.{computer_state_at}
use Rattle.lis_world.specs.inside.Playing.{IsComputerState, OnlyLoad, IsLoad, TakesLoad}

-- what is accepted is a good frame that was heard
record IsGood {limit : ℕ} (signal : Option (SignalOf limit)) (step : ReceiverStep) : Type 0 where
  frame : FrameContent
  signal_is : signal ≡ Some (Good frame)
  taken_is : step.taken ≡ Some frame

abbrev IsHeardAs : {limit : ℕ} → Option (SignalOf limit) → ReceiverStep → Type 0
IsHeardAs signal step = (number : ℕ) → step.note ≡ Accepted number → IsGood signal step

classified_as : {limit : ℕ} (r : ReceiverState) (frame : FrameContent) (note : Note)
    → IsHeardAs {limit = limit} (Some (Good frame)) (on_classified r frame note)
classified_as r frame (Accepted n) number e = record { frame = frame; signal_is = refl; taken_is = refl }
classified_as r frame _ number e = absurd cc

request_as : {limit : ℕ} (signal : Option (SignalOf limit)) (r : ReceiverState) (readiness : Readiness)
    → IsHeardAs signal (answered_request readiness r)
request_as signal r Ready number e = absurd cc
request_as signal r _ number e = absurd cc

heard_by_as : {limit : ℕ} (is_open : Bool) (signal : SignalOf limit) (r : ReceiverState)
    → IsHeardAs (Some signal) (heard_by is_open signal r)
heard_by_as true Enq r = request_as (Some Enq) r r.readiness
heard_by_as true Eot r = λ number e. absurd cc
heard_by_as true (Good frame) r = classified_as r frame (classified r frame)
heard_by_as true (Bad fault) r = λ number e. absurd cc
heard_by_as false Enq r = request_as (Some Enq) r r.readiness
heard_by_as false Eot r = λ number e. absurd cc
heard_by_as false (Good frame) r = λ number e. absurd cc
heard_by_as false (Bad fault) r = λ number e. absurd cc

heard_as : {limit : ℕ} (signal : Option (SignalOf limit)) (r : ReceiverState) → IsHeardAs signal (heard signal r)
heard_as None r number e = absurd cc
heard_as (Some signal) r number e = heard_by_as r.is_open signal r number e

-- the computer's state after a step has the step's receiver
with_its_receiver : (d : ComputerState) (r : ReceiverState) → d.receiver ≡ r → record d { receiver = r } ≡ d
with_its_receiver d r is = ap (λ q. record d { receiver = q }) (sym is)

later_signals :
    {limit : ℕ} (load : Load) (signal : Option (SignalOf limit)) (signals : List (SignalOf limit))
    → OnlyLoad load (with_signal signal signals) →
    OnlyLoad load signals
later_signals load None signals h = h
later_signals load (Some signal) signals h = h.1

good_is_load :
    {limit : ℕ} (load : Load) (signal : Option (SignalOf limit)) (signals : List (SignalOf limit))
    (step : ReceiverStep) →
    OnlyLoad load (with_signal signal signals) → IsGood signal step → IsLoad load step
good_is_load {limit} load signal signals step h good =
    let here = subst (λ x. OnlyLoad load (with_signal x signals)) good.signal_is h in
    record { frame = good.frame; load_is = here.0; taken_is = good.taken_is }

-- bytes that the receiver heard at once, and what comes of those after them
record HearsAtOnce (limit s : ℕ) (load : Load) (bytes : List ℕ) (d : ComputerState) (heard_it : ReceiverHearing) : Type
    0 where
  goes_on : hears limit s bytes d ≡ hears limit s (drop heard_it.count bytes) (booked s heard_it.step d)
  takes : TakesLoad load heard_it.step
  later : OnlyLoad load (signals_after limit heard_it.step.after.past (drop heard_it.count bytes))

hears_at_once :
    (limit s : ℕ) (load : Load) (bytes : List ℕ) (r : ReceiverState) (kept : KeptComputerState)
    → OnlyLoad load (signals_after limit r.past bytes) →
    HearsAtOnce limit s load bytes (computer_state_at kept r) (on_bytes limit bytes r)
hears_at_once limit s load [] r kept only = record { goes_on = refl; takes = λ number e. absurd cc; later = only }
hears_at_once limit s load (b ∷ bytes) r kept only =
    by (on_byte limit b r).note refl
    (hears_at_once limit s load bytes (with_heard (b ∷ []) r) kept
    (later_signals load (signal_after limit r.past b) (signals_after limit (b ∷ r.past) bytes) only))
  where
    by :
        (note : Note) → (on_byte limit b r).note ≡ note →
        HearsAtOnce limit s load bytes (computer_state_at kept (with_heard (b ∷ []) r))
        (on_bytes limit bytes (with_heard (b ∷ []) r)) →
        HearsAtOnce limit s load (b ∷ bytes) (computer_state_at kept r)
        (heard_on 1 note (on_byte limit b r) (on_bytes limit bytes (with_heard (b ∷ []) r)))
    by Quiet e following =
        let next : ReceiverState = with_heard (b ∷ []) r in
        let heard_it : ReceiverHearing = on_bytes limit bytes next in
        let count_is : suc heard_it.count ≡ 1 + heard_it.count = omega arith in
        let step_is = on_byte-quiet limit b r e in
        let computer_state_is : booked s (on_byte limit b r) (computer_state_at kept r) ≡ computer_state_at kept next =
        ap (λ (step : ReceiverStep). booked s step (computer_state_at kept r)) step_is in
        record {
          goes_on =
              ap (hears limit s bytes) computer_state_is
              ∙ following.goes_on
              ∙ ap (λ n. hears limit s (drop n (b ∷ bytes)) (booked s heard_it.step (computer_state_at kept r)))
              count_is;
          takes = following.takes;
          later = subst (λ n. OnlyLoad load (signals_after limit heard_it.step.after.past (drop n (b ∷ bytes))))
              count_is following.later;
        }
    by note e following =
        let signal : Option (SignalOf limit) = signal_after limit r.past b in
        let next : ReceiverState = with_heard (b ∷ []) r in
        let signals : List (SignalOf limit) = signals_after limit (b ∷ r.past) bytes in
        record {
          goes_on = refl;
          takes = λ number accepted. good_is_load load signal signals (on_byte limit b r) only
              (heard_as signal next number accepted);
          later =
              subst (λ past. OnlyLoad load (signals_after limit past bytes)) (sym (heard_leaves signal next).0)
              (later_signals load signal signals only);
        }

-- while bytes are heard: the rest, heard from here, leads to the same computer's state
pub record IsHearing (limit session : ℕ) (load : Load) (kept : KeptComputerState) (left : List ℕ)
    (goal : ComputerState) : Type 0 where
  pub state : ReceiverState
  pub is_in : IsIn limit kept.receiver state
  pub only : OnlyLoad load (signals_after limit state.past left)
  pub goes_on : hears limit session left (computer_state_at kept state) ≡ goal

-- a step that was made and booked
heard_computer_state :
    (limit s : ℕ) (load : Load) (old heard_it new : KeptComputerState) (r : ReceiverState) (step : ReceiverStep)
    (result : Step)
    → TakesLoad load step
    → IsStepMade limit step result heard_it.receiver
    → heard_it ≡ record old { receiver = heard_it.receiver }
    → new.receiver ≡ heard_it.receiver
    → ((meant : ReceiverStep) (q : ReceiverState)
    → IsStep meant result
    → TakesLoad load meant
    → computer_state_at new q ≡ record (booked s meant (computer_state_at heard_it q)) { receiver = q })
    → IsComputerState limit new (booked s step (computer_state_at old r))
heard_computer_state limit s load old heard_it new r step result takes makes same_computer_state same_receiver
    is_booked =
    let goal : ComputerState = booked s step (computer_state_at old r) in
    let after : goal.receiver ≡ step.after = booked_after s step (computer_state_at old r) in
    let here : computer_state_at new step.after ≡ goal =
    is_booked step step.after makes.answer takes
    ∙ ap (λ k. record (booked s step (computer_state_at k step.after)) { receiver = step.after }) same_computer_state
    ∙ with_its_receiver goal step.after after in
    record {
      receiver_is =
          subst (λ k. IsIn limit k goal.receiver) (sym same_receiver)
          (subst (λ q. IsIn limit heard_it.receiver q) (sym after) makes.state);
      computer_state_is = ap (computer_state_at new) after ∙ here;
    }

-- bytes that were heard at once, where memory did not run out
pub hearing_next :
    {A E : Type 0} (outcome : Result A E) (limit s : ℕ) (load : Load) (left : List ℕ) (goal : ComputerState)
    (old heard_it new : KeptComputerState) (result : Hearing)
    → (hearing : IsHearing limit s load old left goal)
    → result.count ≡ (on_bytes limit left hearing.state).count
    → OnOk outcome (result.step.note ≢ OutOfMemory)
    → (result.step.note ≢ OutOfMemory → IsStepMade limit (on_bytes limit left hearing.state).step result.step
    heard_it.receiver)
    → heard_it ≡ record old { receiver = heard_it.receiver }
    → new.receiver ≡ heard_it.receiver
    → ((meant : ReceiverStep) (q : ReceiverState)
    → IsStep meant result.step
    → TakesLoad load meant
    → OnOk outcome (computer_state_at new q ≡ record (booked s meant (computer_state_at heard_it q)) { receiver = q }))
    → IsOk outcome
    → IsHearing limit s load new (drop result.count left) goal
hearing_next (Ok x) limit s load left goal old heard_it new result hearing count_is memory makes same_computer_state
    same_receiver is_booked is_ok =
    let meant : ReceiverHearing = on_bytes limit left hearing.state in
    let at_once = hears_at_once limit s load left hearing.state old hearing.only in
    let computer_state = heard_computer_state limit s load old heard_it new hearing.state meant.step result.step
    at_once.takes
    (makes memory) same_computer_state same_receiver is_booked in
    let booked_it : ComputerState = booked s meant.step (computer_state_at old hearing.state) in
    let after : booked_it.receiver ≡ meant.step.after =
    booked_after s meant.step (computer_state_at old hearing.state) in
    record {
      state = booked_it.receiver;
      is_in = computer_state.receiver_is;
      only =
          subst (λ n. OnlyLoad load (signals_after limit booked_it.receiver.past (drop n left))) (sym count_is)
          (subst (λ (q : ReceiverState). OnlyLoad load (signals_after limit q.past (drop meant.count left)))
          (sym after) at_once.later);
      goes_on =
          ap (hears limit s (drop result.count left)) computer_state.computer_state_is
          ∙ ap (λ n. hears limit s (drop n left) booked_it) count_is
          ∙ sym at_once.goes_on
          ∙ hearing.goes_on;
    }
hearing_next (Err e) limit s load left goal old heard_it new result hearing count_is memory makes same_computer_state
    same_receiver is_booked is_ok = absurd cc

-- all bytes were heard
pub heard_all :
    (limit s : ℕ) (load : Load) (kept : KeptComputerState) (left : List ℕ) (goal : ComputerState)
    → IsHearing limit s load kept left goal → left ≡ [] → IsComputerState limit kept goal
heard_all limit s load kept left goal h none =
    let e : computer_state_at kept h.state ≡ goal = subst (λ xs. hears limit s xs (computer_state_at kept h.state)
    ≡ goal) none h.goes_on in
    subst (λ d. IsComputerState limit kept d) e (record { receiver_is = h.is_in; computer_state_is = refl })

-- nor do an enquiry and an ending
pub enquiry_only : (limit : ℕ) (load : Load) (past : List ℕ) → OnlyLoad load (signals_after limit past (ENQ ∷ []))
unfolding signal_after
enquiry_only limit load past = (tt, tt)

pub ending_only : (limit : ℕ) (load : Load) (past : List ℕ) → OnlyLoad load (signals_after limit past (EOT ∷ []))
unfolding signal_after
ending_only limit load past = (tt, tt)

-- the bytes of a frame hold that frame
pub frame_only :
    (limit : ℕ) (load : Load) (past : List ℕ) (frame : FrameContent) → load ≡ one_frame frame → IsContent limit frame →
    OnlyLoad load (signals_after limit past (frame_bytes frame))
frame_only limit load past frame load_is content =
    subst (λ (signals : List (SignalOf limit)). OnlyLoad load signals)
    (sym (signals-frame_bytes limit past frame content)) (load_is, tt)

pub with_receiver : (first second : KeptComputerState) (kept : Kept) → first ≡ second
    → record first { receiver = kept } ≡ record second { receiver = kept }
with_receiver first second kept same = ap (λ (d : KeptComputerState). record d { receiver = kept }) same

-- the receiver has room, or none
room_set :
    (limit : ℕ) (room : Bool) (kept : KeptWorld) (side : KeptComputerState) (r : ReceiverState)
    → IsComputerState limit side (record (computer_state_at kept.computer_state r) { receiver = with_room room r })
    → IsWorld limit (record kept { computer_state = side }) (room_at room (world_at kept r))
room_set limit room kept side r set = record {
  receiver_is = set.receiver_is;
  world_is =
      ap
      (λ (d : ComputerState).
      record (world_at kept r) { receiver = d.receiver; opened = d.opened; sessions = d.sessions })
      set.computer_state_is;
}

-- the front unit came while there was no room
pub without_room :
    {A E : Type 0} (outcome : Result A E) (limit : ℕ) (old came : KeptWorld) (closed opened : KeptComputerState)
    (r : ReceiverState)
    → IsComputerState limit closed (record (computer_state_at old.computer_state r) { receiver = with_room false r })
    → ((q : ReceiverState)
    → IsIn limit closed.receiver q
    → OnOk outcome
    (IsWorld limit came (delivered limit old.units (world_at (record old { computer_state = closed }) q))))
    → ((q : ReceiverState)
    → IsIn limit came.computer_state.receiver q
    → IsComputerState limit opened
    (record (computer_state_at came.computer_state q) { receiver = with_room true q }))
    → IsOk outcome
    → IsWorld limit (record came { computer_state = opened })
    (room_at true (delivered limit old.units (room_at false (world_at old r))))
without_room (Ok x) limit old came closed opened r closes comes opens is_ok =
    let shut = room_set limit false old closed r closes in
    let there : World = delivered limit old.units (room_at false (world_at old r)) in
    let after =
    subst (λ (w : World). IsWorld limit came (delivered limit old.units w)) shut.world_is
    (comes (with_room false r) shut.receiver_is) in
    subst (λ (w : World). IsWorld limit (record came { computer_state = opened }) (room_at true w)) after.world_is
    (room_set limit true came opened there.receiver (opens there.receiver after.receiver_is))
without_room (Err x) limit old came closed opened r closes comes opens is_ok = absurd cc

-- what follows of a value, where there is one
pub if_ok : {A E : Type 0} {P Q : A → Type 0} (result : Result A E) → ((value : A) → P value → Q value)
    → IfOk result P → IfOk result Q
if_ok (Ok value) follows h = follows value h
if_ok (Err fault) follows h = tt

-- events, one by one
pub playing_next :
    {A X E : Type 0} {after : E → World → World} (outcome : Result A X) (limit : ℕ) (old new : KeptWorld) (event : E)
    (left later : List E) (goal : World)
    → left ≡ event ∷ later
    → (playing : IsPlaying after limit old left goal)
    → OnOk outcome (IsWorld limit new (after event (world_at old playing.state)))
    → IsOk outcome
    → IsPlaying after limit new later goal
playing_next {after = after} (Ok x) limit old new event left later goal e playing here is_ok = record {
  state = (after event (world_at old playing.state)).receiver;
  is_in = here.receiver_is;
  goes_on =
      ap (run_by after later) here.world_is
      ∙ ap (λ es. run_by after es (world_at old playing.state)) (sym e)
      ∙ playing.goes_on;
}
playing_next (Err x) limit old new event left later goal e playing here is_ok = absurd cc

pub played :
    {E : Type 0} {after : E → World → World} (limit : ℕ) (kept : KeptWorld) (left : List E) (goal : World)
    → IsPlaying after limit kept left goal
    → left ≡ []
    → kept.computer_state.sessions ≡ goal.sessions
played {after = after} limit kept left goal playing none =
    ap (λ (w : World). w.sessions)
    (ap (λ es. run_by after es (world_at kept playing.state)) (sym none) ∙ playing.goes_on)
