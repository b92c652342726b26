-- What bytes do at the computer's side, by the signals that they give.
use Rattle.std.proofs.Common.{◌≡◌, ℕ, Bool, true, false, List, [], ◌∷◌, Option, None, Some, refl, ap, ◌∙◌}
use Rattle.lis_frame.specs.declared.scanner.SignalOf.{SignalOf}
use Rattle.lis_frame.specs.declared.scanner.SignalOf.TheVariants.{Enq, Eot, Good, Bad}
use Rattle.lis_frame.specs.Frame.{FrameContent}
use Rattle.lis_frame.specs.Stream.{signal_after, signals_after, with_signal, stream_with}
use Rattle.lis_text.specs.declared.readiness.Readiness.{Readiness}
use Rattle.lis_text.specs.declared.readiness.Readiness.TheVariants.{Ready}
use Rattle.lis_link.specs.declared.receiver.Note.{Note}
use Rattle.lis_link.specs.declared.receiver.Note.TheVariants.{Quiet}
use Rattle.lis_link.specs.Receiver.{answered_request, classified, on_classified, heard_by, heard}
use Rattle.lis_world.specs.World.{ComputerState, booked, hears}

-- the computer's state after other bytes
abbrev pub at_past : List ℕ → ComputerState → ComputerState
at_past past d = record d { receiver = record d.receiver { past = past } }

-- a signal, whatever bytes came before it
abbrev pub hears_signal : {limit : ℕ} → ℕ → SignalOf limit → ComputerState → ComputerState
hears_signal s signal d = booked s (heard_by d.receiver.is_open signal d.receiver) d

abbrev pub hears_signals : {limit : ℕ} → ℕ → List (SignalOf limit) → ComputerState → ComputerState
hears_signals s [] d = d
hears_signals s (signal ∷ signals) d = hears_signals s signals (hears_signal s signal d)

classified-past :
    (s : ℕ) (frame : FrameContent) (past : List ℕ) (d : ComputerState) (note : Note)
    → booked s (on_classified (record d.receiver { past = past }) frame note) (at_past past d)
    ≡ at_past past (booked s (on_classified d.receiver frame note) d)
classified-past s frame past d Quiet = refl
classified-past s frame past d _ = refl

request-past :
    (s : ℕ) (past : List ℕ) (d : ComputerState) (readiness : Readiness)
    → booked s (answered_request readiness (record d.receiver { past = past })) (at_past past d)
    ≡ at_past past (booked s (answered_request readiness d.receiver) d)
request-past s past d Ready = refl
request-past s past d _ = refl

heard-past :
    {limit : ℕ} (s : ℕ) (is_open : Bool) (signal : SignalOf limit) (past : List ℕ) (d : ComputerState)
    → booked s (heard_by is_open signal (record d.receiver { past = past })) (at_past past d)
    ≡ at_past past (booked s (heard_by is_open signal d.receiver) d)
heard-past s true Enq past d = request-past s past d d.receiver.readiness
heard-past s true Eot past d = refl
heard-past s true (Good frame) past d = classified-past s frame past d (classified d.receiver frame)
heard-past s true (Bad fault) past d = refl
heard-past s false Enq past d = request-past s past d d.receiver.readiness
heard-past s false Eot past d = refl
heard-past s false (Good frame) past d = refl
heard-past s false (Bad fault) past d = refl

-- bytes are heard as their signals are
pub hears-signals :
    (limit s : ℕ) (bytes past : List ℕ) (d : ComputerState)
    → hears limit s bytes (at_past past d) ≡ at_past (stream_with past bytes)
    (hears_signals s (signals_after limit past bytes) d)
hears-signals limit s [] past d = refl
hears-signals limit s (b ∷ bytes) past d = go (signal_after limit past b)
    (λ e. hears-signals limit s bytes (b ∷ past) e)
  where
    go :
        (signal : Option (SignalOf limit))
        → ((e : ComputerState)
        → hears limit s bytes (at_past (b ∷ past) e)
        ≡ at_past (stream_with (b ∷ past) bytes) (hears_signals s (signals_after limit (b ∷ past) bytes) e))
        → hears limit s bytes (booked s (heard signal (record d.receiver { past = b ∷ past })) (at_past past d))
        ≡ at_past (stream_with (b ∷ past) bytes) (hears_signals s
        (with_signal signal (signals_after limit (b ∷ past) bytes)) d)
    go None later = later d
    go (Some signal) later =
        ap (hears limit s bytes) (heard-past s d.receiver.is_open signal (b ∷ past) d)
        ∙ later (hears_signal s signal d)

-- the same from where the computer's state is
pub hears-heard :
    (limit s : ℕ) (bytes : List ℕ) (d : ComputerState)
    → hears limit s bytes d
    ≡ at_past (stream_with d.receiver.past bytes) (hears_signals s (signals_after limit d.receiver.past bytes) d)
hears-heard limit s bytes d = hears-signals limit s bytes d.receiver.past d
