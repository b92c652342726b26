-- Reading the bytes between an STX and the next LF: their parts by places, and what is wrong with them first.
use Rattle.std.specs.Prelude.{ℕ, ◌+◌, ◌-◌, ◌*◌, Bool, true, false, List, Option, None, Some, length, drop, take}
use Rattle.std.specs.Prelude.{slice_index, nat_lt, nat_le, ◌==◌, ◌&&◌, ◌||◌}
use Rattle.lis_text.specs.Control.{ETX, ETB, CR}
use Rattle.lis_frame.specs.declared.frame.FrameFault.{FrameFault}
use Rattle.lis_frame.specs.declared.frame.FrameFault.TheVariants.{TooLong, Shape, Number, Text, Sum}
use Rattle.lis_text.specs.Text.{first_forbidden}
use Rattle.lis_frame.specs.Frame.{FrameContent, digit_value, checksum}

-- the places of a frame body's parts: the number first; then the text; end byte, two digits and CR last
abbrev pub text_of : List ℕ → List ℕ
text_of body = take (length body - 5) (drop 1 body)

abbrev pub end_of : List ℕ → ℕ
end_of body = slice_index body (length body - 4)

-- the frame that is there, if one is
abbrev pub content_of : List ℕ → FrameContent
content_of body = record {
  number = slice_index body 0 - 48;
  last = end_of body == ETX;
  text = text_of body;
}

abbrev pub has_shape : List ℕ → Bool
has_shape body =
    nat_le 5 (length body) && slice_index body (length body - 1) == CR
    && (end_of body == ETX || end_of body == ETB)

abbrev pub is_number_byte : ℕ → Bool
is_number_byte b = nat_le 48 b && nat_le b 55

-- the number of two hexadecimal digits, the high one first
abbrev pub pair_value : Option ℕ → Option ℕ → Option ℕ
pair_value None low = None
pair_value (Some high) None = None
pair_value (Some high) (Some low) = Some (16 * high + low)

abbrev pub digits_value : List ℕ → Option ℕ
digits_value body =
    pair_value (digit_value (slice_index body (length body - 3)))
    (digit_value (slice_index body (length body - 2)))

abbrev pub is_value : Option ℕ → ℕ → Bool
is_value None n = false
is_value (Some value) n = value == n

-- the first fault by the answers of the tests, in their order: length, shape, number, text, sum
abbrev pub first_fault : Bool → Bool → Bool → Option ℕ → Bool → Option FrameFault
first_fault true shaped numbered forbidden sums = Some TooLong
first_fault false false numbered forbidden sums = Some Shape
first_fault false true false forbidden sums = Some Number
first_fault false true true (Some place) sums = Some (Text place)
first_fault false true true None false = Some Sum
first_fault false true true None true = None

-- what is wrong with a frame body first; nothing exactly where STX, the frame body and LF are a frame
unfoldable pub body_fault : ℕ → List ℕ → Option FrameFault
body_fault limit body =
    first_fault (nat_lt (limit + 5) (length body)) (has_shape body) (is_number_byte (slice_index body 0))
    (first_forbidden (text_of body)) (is_value (digits_value body) (checksum (content_of body)))
