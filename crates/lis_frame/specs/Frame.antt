-- A frame: its parts, its checksum and its encoding (LIS01-A2, 6.3).
use Rattle.std.specs.Prelude.{◌≡◌, ℕ, ◌+◌, ◌*◌, ◌-◌, ◌/◌, ◌%◌, ◌≤◌, Bool, List, [], ◌∷◌, ◌++◌, Option, None, Some}
use Rattle.std.specs.Prelude.{if◌then◌else◌, nat_lt, nat_le, ◌&&◌, sum}
use Rattle.lis_text.specs.Control.{STX, ETX, ETB, CR, LF}
use Rattle.lis_text.specs.Text.{IsText}

-- the parts that a frame carries: its number, whether it is the last of its message, and its text
pub record FrameContent : Type 0 where
  pub number : ℕ
  pub last : Bool
  pub text : List ℕ

-- the byte of a frame's number: an ASCII digit
abbrev pub number_byte : ℕ → ℕ
number_byte number = 48 + number

-- the byte after the text: ETX in the last frame of a message, ETB in the others
abbrev pub end_byte : Bool → ℕ
end_byte last = if last then ETX else ETB

-- the sum of the bytes from the number to the end byte, both included, modulo 256
abbrev pub checksum : FrameContent → ℕ
checksum frame = (number_byte frame.number + sum frame.text + end_byte frame.last) % 256

-- the value of a hexadecimal digit in either case
abbrev pub digit_value : ℕ → Option ℕ
digit_value b =
    if nat_le 48 b && nat_le b 57 then Some (b - 48)
    else if nat_le 65 b && nat_le b 70 then Some (b - 55)
    else if nat_le 97 b && nat_le b 102 then Some (b - 87)
    else None

-- two hexadecimal digits, the high one first, whose value is the number
pub record IsDigits (high low value : ℕ) : Type 0 where
  pub high_value : ℕ
  pub low_value : ℕ
  pub is_high : digit_value high ≡ Some high_value
  pub is_low : digit_value low ≡ Some low_value
  pub value_is : 16 * high_value + low_value ≡ value

-- what a frame can carry: a number from 0 to 7 and a text
pub record IsContent (limit : ℕ) (frame : FrameContent) : Type 0 where
  pub number_in_range : frame.number ≤ 7
  pub is_text : IsText limit frame.text

-- the bytes of a frame, by the digits of its checksum
abbrev pub frame_encoding : FrameContent → ℕ → ℕ → List ℕ
frame_encoding frame high low =
    STX ∷ number_byte frame.number ∷ (frame.text ++ (end_byte frame.last ∷ high ∷ low ∷ CR ∷ LF ∷ []))

-- the bytes are the frame's: STX, number, text, end byte, the checksum in two digits of either case, CR, LF
pub record IsFrame (limit : ℕ) (bytes : List ℕ) (frame : FrameContent) : Type 0 where
  pub content : IsContent limit frame
  pub high : ℕ
  pub low : ℕ
  pub digits : IsDigits high low (checksum frame)
  pub encoding : bytes ≡ frame_encoding frame high low

-- the bytes begin with the frame's, whatever is after them
pub record BeginsWith (limit : ℕ) (bytes : List ℕ) (frame : FrameContent) : Type 0 where
  pub front : List ℕ
  pub following : List ℕ
  pub is_frame : IsFrame limit front frame
  pub bytes_are : bytes ≡ front ++ following

-- the bytes of a frame as they are written: its digits in upper case
abbrev pub upper_digit : ℕ → ℕ
upper_digit n = if nat_lt n 10 then 48 + n else 55 + n

unfoldable pub frame_bytes : FrameContent → List ℕ
frame_bytes frame = frame_encoding frame (upper_digit (checksum frame / 16)) (upper_digit (checksum frame % 16))
