-- The control bytes of the link (LIS01-A2, 6; ASCII).
use Rattle.std.specs.Prelude.{ℕ}

-- start of text, end of text, end of transmission, enquiry, acknowledgement
abbrev pub STX : ℕ
STX = 2

abbrev pub ETX : ℕ
ETX = 3

abbrev pub EOT : ℕ
EOT = 4

abbrev pub ENQ : ℕ
ENQ = 5

abbrev pub ACK : ℕ
ACK = 6

-- line feed, carriage return
abbrev pub LF : ℕ
LF = 10

abbrev pub CR : ℕ
CR = 13

-- negative acknowledgement, end of transmission block
abbrev pub NAK : ℕ
NAK = 21

abbrev pub ETB : ℕ
ETB = 23
