-- Bytes that are heard carefully are other bytes that are heard as they are.
use Rattle.std.proofs.Common.{◌≡◌, ℕ, Bool, true, false, List, [], ◌∷◌, Option, None, Some, refl, ap, sym, ◌∙◌}
use Rattle.std.proofs.Common.{subst}
use Rattle.std.specs.Option.{option_map}
use Rattle.lis_frame.specs.declared.scanner.SignalOf.{SignalOf}
use Rattle.lis_frame.specs.Stream.{open_body, signal_after, signals_after, with_signal}
use Rattle.lis_link.specs.Receiver.{ReceiverState, ReceiverStep, heard, on_byte, with_heard}
use Rattle.lis_careful.specs.Careful.{ends_session, heard_as, careful_by}
use Rattle.lis_careful.proofs.Receiving.{on_byte-past, unspecial_step}
use Rattle.lis_careful.specs.inside.Hearing.{AreUnspecial}
use Rattle.lis_world.specs.World.{ComputerState, booked, hears}
use Rattle.lis_world.proofs.Heard.{booked_after}
use Rattle.lis_careful.specs.World.{CarefulSignal, ends, gives, careful_signal_by, with_heard_first}
use Rattle.lis_careful.specs.World.{careful_signals, hears_carefully}

-- no session is ended; and the signals then
abbrev pub no_end : {limit : ℕ} → List (CarefulSignal limit) → Bool
no_end [] = true
no_end (ends ∷ signals) = false
no_end (gives signal ∷ signals) = no_end signals

abbrev pub given_of : {limit : ℕ} → List (CarefulSignal limit) → List (SignalOf limit)
given_of [] = []
given_of (ends ∷ signals) = given_of signals
given_of (gives signal ∷ signals) = signal ∷ given_of signals

pub later_no_end : {limit : ℕ} (signal : Option (SignalOf limit)) (rest : List (CarefulSignal limit))
    → no_end (with_heard_first (option_map gives signal) rest) ≡ true → no_end rest ≡ true
later_no_end None rest e = e
later_no_end (Some signal) rest e = e

pub given_first : {limit : ℕ} (signal : Option (SignalOf limit)) (rest : List (CarefulSignal limit))
    → with_signal signal (given_of rest) ≡ given_of (with_heard_first (option_map gives signal) rest)
given_first None rest = refl
given_first (Some signal) rest = refl

-- the bytes that are heard as these are
pub record AsHeard (limit s : ℕ) (after : ComputerState) (signals : List (CarefulSignal limit)) (d : ComputerState) :
    Type 0 where
  pub bytes : List ℕ
  pub same : after ≡ hears limit s bytes d
  pub signals_are : signals_after limit d.receiver.past bytes ≡ given_of signals

pub plainly : (limit s : ℕ) (bytes : List ℕ) (d : ComputerState)
    → no_end (careful_signals limit bytes d.receiver) ≡ true
    → AsHeard limit s (hears_carefully limit s bytes d) (careful_signals limit bytes d.receiver) d
plainly limit s [] d e = record { bytes = []; same = refl; signals_are = refl }
plainly limit s (b ∷ bytes) d e = by (ends_session d.receiver b) e (λ next goes. plainly limit s bytes next goes)
  where
    by : (test : Bool)
        → no_end (with_heard_first (careful_signal_by test (signal_after limit d.receiver.past
        (heard_as (open_body d.receiver.past) b)))
        (careful_signals limit bytes (careful_by test limit b d.receiver).after)) ≡ true
        → ((next : ComputerState) → no_end (careful_signals limit bytes next.receiver) ≡ true
        → AsHeard limit s (hears_carefully limit s bytes next) (careful_signals limit bytes next.receiver) next)
        → AsHeard limit s (hears_carefully limit s bytes (booked s (careful_by test limit b d.receiver) d))
        (with_heard_first (careful_signal_by test (signal_after limit d.receiver.past
        (heard_as (open_body d.receiver.past) b)))
        (careful_signals limit bytes (careful_by test limit b d.receiver).after)) d
    by true e rest_heard = cc
    by false e rest_heard =
        let b' : ℕ = heard_as (open_body d.receiver.past) b in
        let step : ReceiverStep = on_byte limit b' d.receiver in
        let next : ComputerState = booked s step d in
        let rest : List (CarefulSignal limit) = careful_signals limit bytes step.after in
        let after_is : next.receiver ≡ step.after = booked_after s step d in
        let past_is : next.receiver.past ≡ b' ∷ d.receiver.past =
        ap (λ (r : ReceiverState). r.past) after_is ∙ on_byte-past limit b' d.receiver in
        let goes : no_end rest ≡ true = later_no_end (signal_after limit d.receiver.past b') rest e in
        let later = rest_heard next
        (subst (λ (r : ReceiverState). no_end (careful_signals limit bytes r) ≡ true) (sym after_is) goes) in
        record {
          bytes = b' ∷ later.bytes;
          same = later.same;
          signals_are =
              ap (with_signal (signal_after limit d.receiver.past b'))
              (ap (λ p. signals_after limit p later.bytes) (sym past_is) ∙ later.signals_are
              ∙ ap (λ (r : ReceiverState). given_of (careful_signals limit bytes r)) after_is)
              ∙ given_first (signal_after limit d.receiver.past b') rest;
        }

-- the receiver's state once the session has ended
abbrev pub closed : ReceiverState → ReceiverState
closed r = record r { is_open = false; past = [] }

abbrev pub closed_side : ComputerState → ComputerState
closed_side d = record d { receiver = closed d.receiver }

-- a session that ends, and then bytes that give no signal
pub record EndsThen (limit s : ℕ) (after : ComputerState) (d : ComputerState) : Type 0 where
  pub bytes : List ℕ
  pub same : after ≡ hears limit s bytes (closed_side d)
  pub silent : signals_after limit [] bytes ≡ []

pub rest_is : {limit : ℕ} (rest : List (CarefulSignal limit)) → ends ∷ rest ≡ ends ∷ [] → rest ≡ []
rest_is rest e = cc

pub ended : (limit s : ℕ) (bytes : List ℕ) (d : ComputerState)
    → careful_signals limit bytes d.receiver ≡ ends ∷ []
    → EndsThen limit s (hears_carefully limit s bytes d) d
ended limit s [] d e = cc
ended limit s (b ∷ bytes) d e = by (ends_session d.receiver b) e (λ next ends_here. ended limit s bytes next ends_here)
  where
    by_signal : (signal : Option (SignalOf limit))
        → with_heard_first (option_map gives signal) (careful_signals limit bytes
        (heard signal (with_heard (heard_as (open_body d.receiver.past) b ∷ []) d.receiver)).after) ≡ ends ∷ []
        → ((next : ComputerState) → careful_signals limit bytes next.receiver ≡ ends ∷ []
        → EndsThen limit s (hears_carefully limit s bytes next) next)
        → EndsThen limit s (hears_carefully limit s bytes (booked s
        (heard signal (with_heard (heard_as (open_body d.receiver.past) b ∷ []) d.receiver)) d)) d
    by_signal None e rest_ends =
        let later = rest_ends
        (record d { receiver = with_heard (heard_as (open_body d.receiver.past) b ∷ []) d.receiver }) e in
        record { bytes = later.bytes; same = later.same; silent = later.silent }
    by_signal (Some signal) e rest_ends = cc

    by : (test : Bool)
        → with_heard_first (careful_signal_by test (signal_after limit d.receiver.past
        (heard_as (open_body d.receiver.past) b)))
        (careful_signals limit bytes (careful_by test limit b d.receiver).after) ≡ ends ∷ []
        → ((next : ComputerState) → careful_signals limit bytes next.receiver ≡ ends ∷ []
        → EndsThen limit s (hears_carefully limit s bytes next) next)
        → EndsThen limit s (hears_carefully limit s bytes (booked s (careful_by test limit b d.receiver) d)) d
    by true e rest_ends =
        let none : careful_signals limit bytes (closed d.receiver) ≡ [] = rest_is _ e in
        let later = plainly limit s bytes (closed_side d)
        (subst (λ (xs : List (CarefulSignal limit)). no_end xs ≡ true) (sym none) refl) in
        record {
          bytes = later.bytes;
          same = later.same;
          silent = later.signals_are ∙ ap given_of none;
        }
    by false e rest_ends =
        by_signal (signal_after limit d.receiver.past (heard_as (open_body d.receiver.past) b)) e rest_ends

-- bytes that are not special are heard as they are
pub unspecial_hears : (limit s : ℕ) (bytes : List ℕ) (d : ComputerState) → AreUnspecial bytes
    → hears_carefully limit s bytes d ≡ hears limit s bytes d
unspecial_hears limit s [] d plain = refl
unspecial_hears limit s (b ∷ bytes) d plain =
    ap (λ step. hears_carefully limit s bytes (booked s step d)) (unspecial_step limit b d.receiver plain.0)
    ∙ unspecial_hears limit s bytes (booked s (on_byte limit b d.receiver) d) plain.1
