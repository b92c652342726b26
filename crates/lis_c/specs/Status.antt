-- The status that a call answers which may fail, and where the fault is.
use Rattle.std.specs.Prelude.{◌≡◌, ℕ, ◌<◌, ◌≤◌, ◌⊎◌, Option, None, Some, if◌then◌else◌, nat_lt}
use Rattle.lis_text.specs.LinkText.{longest_text, most_texts}
use Rattle.lis_text.specs.declared.text.TextFault.{TextFault}
use Rattle.lis_text.specs.declared.text.TextFault.TheVariants.{TooLong, Forbidden}
use Rattle.lis_link.specs.declared.sender.StartFault.{StartFault}
use Rattle.lis_link.specs.declared.sender.StartFault.TheVariants.{InSession, NoText, BadText}

abbrev pub OK : ℕ
OK = 0

-- a session is going on; there is no text; more bytes than the limit allows; a byte that no text may hold
abbrev pub IN_SESSION : ℕ
IN_SESSION = 1

abbrev pub NO_TEXT : ℕ
NO_TEXT = 2

abbrev pub TOO_LONG : ℕ
TOO_LONG = 3

abbrev pub FORBIDDEN : ℕ
FORBIDDEN = 4

-- as many texts as a session has; memory ran out; a number that is invalid; a buffer that is too short
abbrev pub FULL : ℕ
FULL = 5

abbrev pub OUT_OF_MEMORY : ℕ
OUT_OF_MEMORY = 6

abbrev pub BAD_NUMBER : ℕ
BAD_NUMBER = 7

abbrev pub TOO_SHORT : ℕ
TOO_SHORT = 8

-- a text of no byte; a letter of no record; bytes that are no delimiters; a part that isn't there
abbrev pub NO_RECORD : ℕ
NO_RECORD = 9

abbrev pub BAD_LETTER : ℕ
BAD_LETTER = 10

abbrev pub BAD_DELIMITERS : ℕ
BAD_DELIMITERS = 11

abbrev pub ABSENT : ℕ
ABSENT = 12

-- a message that isn't closed, or a record that isn't ended or can't be read
abbrev pub UNFINISHED : ℕ
UNFINISHED = 13

-- a record that isn't a header outside a message; one without its parent; a header inside a message
abbrev pub PUT_NOT_HEADER : ℕ
PUT_NOT_HEADER = 14

abbrev pub PUT_NO_PARENT : ℕ
PUT_NO_PARENT = 15

abbrev pub PUT_SECOND_HEADER : ℕ
PUT_SECOND_HEADER = 16

-- bytes are a text, or why they aren't, and the place of the first forbidden byte
abbrev pub text_status : Option TextFault → ℕ
text_status None = OK
text_status (Some TooLong) = TOO_LONG
text_status (Some (Forbidden place)) = FORBIDDEN

abbrev pub text_place : Option TextFault → ℕ
text_place None = 0
text_place (Some TooLong) = 0
text_place (Some (Forbidden place)) = place

-- a copy to a buffer of so many bytes of a text of so many
abbrev pub copy_status : ℕ → ℕ → ℕ
copy_status room length = if nat_lt room length then TOO_SHORT else OK

-- a frame can be written: its text is reported before its number
abbrev pub frame_status : ℕ → Option TextFault → ℕ
frame_status number None = if nat_lt 7 number then BAD_NUMBER else OK
frame_status number (Some fault) = text_status (Some fault)

-- and it has to fit into a buffer of so many bytes
abbrev pub long_frame_status : ℕ → Option TextFault → ℕ → ℕ → ℕ
long_frame_status number None room size = if nat_lt 7 number then BAD_NUMBER else copy_status room size
long_frame_status number (Some fault) room size = text_status (Some fault)

-- a session can be started, or why it can't, and which text and which byte of it is at fault
abbrev pub start_status : Option StartFault → ℕ
start_status None = OK
start_status (Some InSession) = IN_SESSION
start_status (Some NoText) = NO_TEXT
start_status (Some (BadText index fault)) = text_status (Some fault)

abbrev pub start_index : Option StartFault → ℕ
start_index None = 0
start_index (Some InSession) = 0
start_index (Some NoText) = 0
start_index (Some (BadText index fault)) = index

abbrev pub start_place : Option StartFault → ℕ
start_place None = 0
start_place (Some InSession) = 0
start_place (Some NoText) = 0
start_place (Some (BadText index fault)) = text_place (Some fault)

-- a text after so many: there are as many as a session has, or it was put there, or memory ran out
abbrev pub AddStatus : ℕ → ℕ → Type 0
AddStatus status texts =
    ((status ≡ FULL) × (most_texts ≤ texts))
    ⊎ ((texts < most_texts) × ((status ≡ OK) ⊎ (status ≡ OUT_OF_MEMORY)))

-- the same of bytes for the link: what is wrong with them as a text comes first
abbrev pub AddTextStatus : ℕ → ℕ → Option TextFault → Type 0
AddTextStatus status texts None = AddStatus status texts
AddTextStatus status texts (Some fault) = status ≡ text_status (Some fault)

-- room for so many bytes: it is more than a text has, or it was made, or memory ran out
abbrev pub ReserveStatus : ℕ → ℕ → Type 0
ReserveStatus status bytes =
    ((status ≡ TOO_LONG) × (longest_text < bytes))
    ⊎ ((bytes ≤ longest_text) × ((status ≡ OK) ⊎ (status ≡ OUT_OF_MEMORY)))
