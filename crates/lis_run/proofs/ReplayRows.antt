-- The definitions of `replay` and `texts` at captures whose output is known from outside, by computation.
use Rattle.std.proofs.Common.{◌≡◌, ℕ, zero, suc, List, [], ◌∷◌, ◌++◌, Some, Err, refl, false, true, codes}
use Rattle.std.specs.Fmt.{digits}
use Rattle.hex.specs.Hex.{decode_pairs, encode_with}
use Rattle.lis_frame.specs.FrameBody.{body_fault}
use Rattle.lis_frame.specs.Stream.{signal_after, open_body, stream_with}
use Rattle.lis_engine.specs.declared.fault.ToolFault.TheVariants.{CaptureLine}
use Rattle.lis_run.specs.LineOutcome.{capture_outcome}
use Rattle.lis_engine.specs.Outcome.{whole}
use Rattle.lis_run.specs.Replay.{replay_writes, texts}
use Rattle.lis_run.specs.inside.Replay.{replay}
use Rattle.lis_run.specs.Upgrade.{upgrade_writes}

session : List ℕ
session = codes "> 05\n< 06\n> 0231487c5c5e260d0345350d0a\n< 06\n> 04\n"

session_is : (replay 240 session ≡ codes "text 3 6\ntexts 1 differences 0\n") × (texts 240 session ≡ codes "H|\\^&\r")
unfolding session decode_pairs encode_with digits signal_after open_body body_fault
session_is = (refl, refl)

-- rejected where it was taken, and a reply that is missing
differences_are :
    (replay 240 (codes "> 05\n< 06\n> 0231487c5c5e260d0345350d0a\n< 15\n> 04\n")
    ≡ codes "text 3 6\ndifference 4 15 06\ntexts 1 differences 1\n")
    × (replay 240 (codes "> 05\n< 06\n> 0231487c5c5e260d0345350d0a\n> 04\n")
    ≡ codes "text 3 6\ndifference end - 06\ntexts 1 differences 1\n")
unfolding decode_pairs encode_with digits signal_after open_body body_fault
differences_are = (refl, refl)

nothing : replay 240 [] ≡ codes "texts 0 differences 0\n"
unfolding digits
nothing = refl

half_a_byte_is_refused : (capture_outcome (replay_writes 240) (stream_with [] (codes "> 0\n")) false).halt
    ≡ Some (Err (CaptureLine 1))
unfolding decode_pairs
half_a_byte_is_refused = refl

-- the timer ends a session, and so does a restart; one that contends is played
ended_are :
    (replay 240 (codes "> 05\n< 06\nT\n> 0231487c5c5e260d0345350d0a") ≡ codes "texts 0 differences 0\n")
    × (replay 240 (codes "capture 2\nS busy\n> 05\n< 15\nS ready\n> 05\n< 06\nR\n> 0231410337350d0a\n")
    ≡ codes "texts 0 differences 0\n")
    × (replay 240 (codes "capture 2\nS contending\n> 05\n< 05\n> 05\n< 06\n> 0231410337350D0A\n< 06\n")
    ≡ codes "text 7 1\ntexts 1 differences 0\n")
unfolding decode_pairs encode_with digits signal_after open_body body_fault
ended_are = (refl, refl, refl)

upgraded_and_played :
    replay 240 (whole (capture_outcome upgrade_writes (stream_with [] session) true))
    ≡ codes "text 4 6\ntexts 1 differences 0\n"
unfolding session decode_pairs encode_with digits signal_after open_body body_fault
upgraded_and_played = refl

pairs : ℕ → List ℕ
pairs zero = []
pairs (suc n) = 52 ∷ 49 ∷ pairs n

letters : List ℕ
unfolding pairs
letters = codes "> 05\n> 0231" ++ pairs 241 ++ codes "0336350d0a\n"

-- a frame that is long, and too long where the limit is the usual one
long_frame :
    (replay 63993 letters ≡ codes "text 2 241\ndifference end - 0606\ntexts 1 differences 1\n")
    × (replay 240 letters ≡ codes "difference end - 0615\ntexts 0 differences 1\n")
unfolding pairs letters decode_pairs encode_with digits signal_after open_body body_fault
long_frame = (refl, refl)
