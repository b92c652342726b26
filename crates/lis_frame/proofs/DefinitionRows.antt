-- The definitions at frames and texts whose values are known from outside, by computation.
use Rattle.std.proofs.Common.{◌≡◌, [], ◌∷◌, None, Some, refl, true, false, replicate}
use Rattle.lis_frame.specs.declared.frame.FrameFault.TheVariants.{Shape, Number, Text, Sum}
use Rattle.lis_frame.specs.declared.scanner.SignalOf.TheVariants.{Enq, Good}
use Rattle.lis_frame.specs.FrameBody.{body_fault}
use Rattle.lis_frame.specs.Stream.{signals, signal_after, open_body}
use Rattle.lis_frame.specs.Pieces.{session_frames, pieces}

-- number 1, last, the text of a header record: the sum is E5
header_is_good : body_fault 240 (0x31 ∷ 0x48 ∷ 0x7c ∷ 0x5c ∷ 0x5e ∷ 0x26 ∷ 0x0d ∷ 0x03 ∷ 0x45 ∷ 0x35 ∷ 0x0d ∷ [])
    ≡ None
unfolding body_fault
header_is_good = refl

-- its digits may be in lower case
lower_case_is_good : body_fault 240 (0x31 ∷ 0x48 ∷ 0x7c ∷ 0x5c ∷ 0x5e ∷ 0x26 ∷ 0x0d ∷ 0x03 ∷ 0x65 ∷ 0x35 ∷ 0x0d
    ∷ []) ≡ None
unfolding body_fault
lower_case_is_good = refl

empty_text_is_good : body_fault 240 (0x31 ∷ 0x03 ∷ 0x33 ∷ 0x34 ∷ 0x0d ∷ []) ≡ None
unfolding body_fault
empty_text_is_good = refl

nothing_is_no_frame : body_fault 240 [] ≡ Some Shape
unfolding body_fault
nothing_is_no_frame = refl

forbidden_byte_first : body_fault 240 (0x31 ∷ 0x03 ∷ 0x41 ∷ 0x03 ∷ 0x33 ∷ 0x34 ∷ 0x0d ∷ []) ≡ Some (Text 0)
unfolding body_fault
forbidden_byte_first = refl

number_eight_is_none : body_fault 240 (0x38 ∷ 0x03 ∷ 0x33 ∷ 0x34 ∷ 0x0d ∷ []) ≡ Some Number
unfolding body_fault
number_eight_is_none = refl

no_hexadecimal_digit : body_fault 240 (0x31 ∷ 0x03 ∷ 0x33 ∷ 0x47 ∷ 0x0d ∷ []) ≡ Some Sum
unfolding body_fault
no_hexadecimal_digit = refl

-- STX and A, then ENQ: the unfinished frame reports nothing
torn_frame : signals 240 (0x02 ∷ 0x31 ∷ 0x41 ∷ 0x05 ∷ []) ≡ Enq ∷ []
unfolding signal_after open_body
torn_frame = refl

-- an LF alone reports nothing
bare_line_feed : signals 240 (0x0a ∷ []) ≡ []
unfolding signal_after open_body
bare_line_feed = refl

one_frame : signals 240 (0x02 ∷ 0x31 ∷ 0x03 ∷ 0x33 ∷ 0x34 ∷ 0x0d ∷ 0x0a ∷ [])
    ≡ Good (record { number = 1; last = true; text = [] }) ∷ []
unfolding signal_after open_body body_fault
one_frame = refl

-- 241 letters A and then the empty text: a full intermediate frame, an end frame, and an empty end frame
frames_of_two_texts :
    session_frames 240 (replicate 241 0x41 ∷ [] ∷ [])
    ≡ record { number = 1; last = false; text = replicate 240 0x41 }
    ∷ record { number = 2; last = true; text = 0x41 ∷ [] }
    ∷ record { number = 3; last = true; text = [] }
    ∷ []
unfolding session_frames pieces
frames_of_two_texts = refl
