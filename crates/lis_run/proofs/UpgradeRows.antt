-- The definition of `upgrade` at captures whose output is known from outside, by computation; and what is played of
-- them before and after.
use Rattle.std.proofs.Common.{◌≡◌, ℕ, List, [], refl, codes}
use Rattle.std.specs.Fmt.{digits}
use Rattle.hex.specs.Hex.{decode_pairs, encode_with}
use Rattle.lis_frame.specs.FrameBody.{body_fault}
use Rattle.lis_frame.specs.Stream.{signal_after, open_body}
use Rattle.lis_run.specs.Replay.{texts}
use Rattle.lis_run.specs.inside.Replay.{replay}
use Rattle.lis_run.specs.Upgrade.{upgrade}

-- a capture of version 1 with empty lines, CR, digits in both cases, and no end of its last line
first_version : List ℕ
first_version = codes "\n> 05\r\n< 06\n> 0231487C5c5e260d0345350d0a\n\n< 15\nT\n> 04"

first_version_upgraded : List ℕ
first_version_upgraded = codes "capture 2\n\n> 05\n< 06\n> 0231487c5c5e260d0345350d0a\n\n< 15\nT\n> 04\n"

-- written, and written again; what is played of it, before and after; and the texts
first_is :
    (upgrade first_version ≡ first_version_upgraded) × (upgrade first_version_upgraded ≡ first_version_upgraded)
    × (replay 240 first_version ≡ codes "text 4 6\ndifference 6 15 06\ntexts 1 differences 1\n")
    × (replay 240 first_version_upgraded ≡ codes "text 5 6\ndifference 7 15 06\ntexts 1 differences 1\n")
    × (texts 240 first_version ≡ codes "H|\\^&\r") × (texts 240 first_version_upgraded ≡ codes "H|\\^&\r")
unfolding first_version first_version_upgraded decode_pairs encode_with digits signal_after open_body body_fault
first_is = (refl, refl, refl, refl, refl, refl)

-- a capture of version 2 keeps its lines and their numbers
second_version : List ℕ
second_version = codes "capture 2\r\nS contending\r\n> 05\r\n< 06"

second_version_upgraded : List ℕ
second_version_upgraded = codes "capture 2\nS contending\n> 05\n< 06\n"

second_is :
    (upgrade second_version ≡ second_version_upgraded)
    × (replay 240 second_version ≡ codes "difference 4 06 05\ntexts 0 differences 1\n")
    × (replay 240 second_version_upgraded ≡ codes "difference 4 06 05\ntexts 0 differences 1\n")
unfolding second_version second_version_upgraded decode_pairs encode_with digits signal_after open_body body_fault
second_is = (refl, refl, refl)

no_line : upgrade [] ≡ codes "capture 2\n"
no_line = refl

-- lines before a rejected one are written
half_a_byte_ends : upgrade (codes "> 05\n> 0\n> 04\n") ≡ codes "capture 2\n> 05\n"
unfolding decode_pairs encode_with
half_a_byte_ends = refl
